pub mod Names
pub mod Held
pub mod Declarations
pub mod Rows
pub mod Lines
pub mod Scanner
pub mod Decided
