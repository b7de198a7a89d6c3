pub mod Owners
pub mod Holding
pub mod Standing
pub mod Told
pub mod Telling
pub mod Beginning
pub mod Pairs
pub mod Clashing
pub mod Fitting
pub mod Calls
pub mod Leaving
pub mod Running
pub mod Remaining
pub mod Going
mod Example
