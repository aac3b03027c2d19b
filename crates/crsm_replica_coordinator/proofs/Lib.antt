pub mod Counting
pub mod Coordinators
pub mod Passing
