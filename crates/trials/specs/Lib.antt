pub mod Trials
pub mod Memory
pub mod Shown
