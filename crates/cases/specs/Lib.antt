pub mod Memory
pub mod Within
pub mod Calls
pub mod Pushing
pub mod Machines
pub mod Limits
pub mod Terms
pub mod Law
