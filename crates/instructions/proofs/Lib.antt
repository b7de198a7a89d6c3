mod Listing
mod Paths
pub mod Agreeing
mod Fetching
mod Running
pub mod Closing
mod Stretches
mod WrittenKinds
mod WrittenFeatures
mod Spreading
mod Telling
mod Left
mod Kept
mod Standing
mod Resuming
mod Advancing
mod Together
pub mod Counted
mod Entering
pub mod Obeying
mod Example
