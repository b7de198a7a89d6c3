pub mod Saying
pub mod Computed
