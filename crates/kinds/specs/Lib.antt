pub mod Stored
pub mod Model
pub mod Lists
pub mod Shipped
