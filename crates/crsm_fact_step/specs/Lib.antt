pub mod Messages
pub mod Changes
pub mod Steps
