pub mod Standing
pub mod Calling
pub mod Noting
pub mod Counting
pub mod Entries
pub mod Showing
