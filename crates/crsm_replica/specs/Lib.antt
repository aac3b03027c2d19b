pub mod Again
pub mod Parts
pub mod Recorded
pub mod Sound
pub mod Replica
