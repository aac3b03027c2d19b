pub mod Happen
pub mod Moments
