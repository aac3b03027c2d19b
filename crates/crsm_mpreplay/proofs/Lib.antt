pub mod Schedules
pub mod Exact
pub mod Happened
pub mod OneText
pub mod Replayed
