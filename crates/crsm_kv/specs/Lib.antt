pub mod Clients
pub mod Stored
pub mod Operations
