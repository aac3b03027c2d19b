pub mod Checks
pub mod Happening
pub mod Breaking
