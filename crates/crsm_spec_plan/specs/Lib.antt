pub mod Plans
pub mod Timelines
