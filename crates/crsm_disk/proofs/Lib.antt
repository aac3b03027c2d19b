mod Answered
pub mod Moments
mod Painted
