pub mod Calls
pub mod Handed
pub mod Stopping
