pub mod Handling
pub mod State
pub mod Run
pub mod Exact
