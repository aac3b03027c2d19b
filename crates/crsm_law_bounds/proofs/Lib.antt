pub mod Steps
pub mod Worlds
pub mod Counts
pub mod Growth
pub mod StepGrowth
pub mod Short
