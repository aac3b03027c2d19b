pub mod Counting
pub mod Running
pub mod Soak
pub mod Text
