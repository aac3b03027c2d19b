pub mod Seen
pub mod Laws
pub mod Runs
pub mod Last
pub mod DurableLaws
