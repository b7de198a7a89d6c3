pub mod Terming
pub mod Filling
pub mod WithKinds
pub mod Finishing
