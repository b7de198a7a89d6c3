pub mod Common
pub mod Numbers
pub mod Points
pub mod Stopped
mod Placing
