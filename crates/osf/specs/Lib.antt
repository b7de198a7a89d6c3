pub mod Facts
pub mod Calls
pub mod Runs
pub mod Law
pub mod Memory
pub mod Reached
