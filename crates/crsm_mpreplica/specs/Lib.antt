pub mod Fitting
pub mod Made
pub mod Notes
pub mod State
