pub mod Values
pub mod Files
pub mod Orders
pub mod Devices
pub mod Worked
pub mod Breaking
pub mod Started
pub mod Kept
