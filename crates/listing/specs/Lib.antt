pub mod Shown
pub mod Reports
