pub mod Received
pub mod Least
pub mod Masks
pub mod Places
pub mod Pending
pub mod Waiting
pub mod Laws
