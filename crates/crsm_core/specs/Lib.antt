pub mod Inputs
pub mod Core
