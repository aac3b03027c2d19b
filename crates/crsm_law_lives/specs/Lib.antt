pub mod Events
pub mod Premises
pub mod Sending
pub mod Laws
