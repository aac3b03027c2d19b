pub mod Loops
pub mod Fields
pub mod Faults
pub mod Differ
