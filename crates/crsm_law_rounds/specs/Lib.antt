pub mod Rounds
pub mod Members
pub mod Passes
