pub mod Lines
pub mod Scanner
pub mod Decided
pub mod Narrowing
pub mod Shown
