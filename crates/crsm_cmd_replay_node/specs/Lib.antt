pub mod Causes
pub mod Refused
pub mod Handled
pub mod Run
