pub mod Devices
pub mod Statuses
pub mod Tasks
pub mod Locks
pub mod Parts
pub mod Did
pub mod Exact
pub mod Run
