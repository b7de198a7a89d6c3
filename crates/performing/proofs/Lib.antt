pub mod Onward
pub mod Variables
pub mod Lists
mod Places
mod Narrowing
mod Meeting
mod Tying
pub mod Steps
