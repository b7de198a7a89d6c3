pub mod Finding
pub mod Gathering
pub mod Members
pub mod Added
pub mod Pairing
pub mod Declaring
pub mod Ships
pub mod Closed
