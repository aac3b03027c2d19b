pub mod Runs
pub mod Processes
pub mod Laws
