pub mod Declaring
pub mod Held
