pub mod Broken
pub mod Known
