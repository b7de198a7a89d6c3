pub mod Parts
pub mod Fronts
pub mod Singles
mod Halves
mod Written
pub mod Wholes
