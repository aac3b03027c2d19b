pub mod Core
pub mod Elections
pub mod Findings
pub mod Parts
pub mod Requests
pub mod Ticks
pub mod Replies
