pub mod Words
pub mod Trees
pub mod Told
pub mod Lawful
pub mod Lines
pub mod Scanner
pub mod Only
