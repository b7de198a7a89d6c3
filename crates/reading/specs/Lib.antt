pub mod Notes
pub mod Links
pub mod Reading
