pub mod Schedules
pub mod Causes
pub mod Rules
pub mod State
pub mod Refused
pub mod Handled
pub mod Replayed
pub mod Run
