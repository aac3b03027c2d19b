pub mod Lines
pub mod Handled
pub mod Exact
pub mod Replayed
pub mod ReadLines
