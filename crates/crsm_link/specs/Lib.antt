pub mod Arrived
pub mod Sent
