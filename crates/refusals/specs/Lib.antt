pub mod Table
pub mod Places
