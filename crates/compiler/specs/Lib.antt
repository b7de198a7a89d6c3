pub mod Passing
pub mod Compiled
pub mod Views
pub mod Entries
pub mod Rules
