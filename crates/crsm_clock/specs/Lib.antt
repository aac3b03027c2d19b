pub mod Issues
pub mod Readings
