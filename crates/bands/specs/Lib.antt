pub mod Bands
pub mod Rules
pub mod Order
pub mod Texts
pub mod Letters
