pub mod Codes
pub mod Steps
pub mod Law
