pub mod First
pub mod Kept
pub mod Linking
pub mod Logged
pub mod Opening
pub mod Pushing
pub mod Recorded
pub mod Times
