pub mod Performing
pub mod Structures
pub mod Following
