pub mod Answering
pub mod Input
