pub mod Logs
pub mod Rising
pub mod Counting
pub mod Merging
pub mod Collected
pub mod Pages
pub mod Known
