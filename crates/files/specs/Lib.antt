pub mod Lines
pub mod Counts
pub mod Model
pub mod Shelves
pub mod Reads
pub mod Files
