pub mod Slots
pub mod Seats
pub mod Happenings
pub mod Traces
pub mod Kept
