pub mod Heard
pub mod Shown
pub mod Locks
pub mod Laws
