pub mod Counting
pub mod Lining
pub mod Booking
pub mod Bounded
pub mod Mapping
pub mod Near
pub mod Sections
pub mod Shelving
