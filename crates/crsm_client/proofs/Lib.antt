pub mod Exchanging
pub mod Sending
pub mod Receiving
pub mod Marking
pub mod Pacing
pub mod Asked
pub mod Completing
