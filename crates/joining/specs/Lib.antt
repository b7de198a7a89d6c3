pub mod Heap
pub mod Good
pub mod Joining
pub mod Interpretation
pub mod Law
