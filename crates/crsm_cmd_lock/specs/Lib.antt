pub mod Learning
pub mod Commands
pub mod Answers
