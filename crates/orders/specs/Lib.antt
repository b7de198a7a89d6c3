pub mod Meaning
pub mod Texts
pub mod Pairs
pub mod Whole
