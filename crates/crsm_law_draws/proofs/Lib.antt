pub mod Possibly
pub mod Decisions
pub mod Happenings
pub mod Worlds
pub mod Runs
pub mod Fitting
pub mod Packets
pub mod Drawn
