pub mod Images
pub mod Painted
mod Reached
