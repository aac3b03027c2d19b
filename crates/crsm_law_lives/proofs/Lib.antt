pub mod Hosts
pub mod Processes
pub mod Laws
pub mod Agree
pub mod Lines
pub mod Right
pub mod Sending
