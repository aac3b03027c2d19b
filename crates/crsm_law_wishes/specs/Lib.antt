pub mod Readings
pub mod Laws
pub mod Example
