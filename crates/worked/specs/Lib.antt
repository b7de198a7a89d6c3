pub mod Shipped
pub mod Lines
pub mod Table
