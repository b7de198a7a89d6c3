pub mod Blanks
pub mod Sameness
pub mod Answering
