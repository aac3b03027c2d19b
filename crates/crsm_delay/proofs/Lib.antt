pub mod Found
pub mod Last
pub mod Handled
pub mod Exact
pub mod Upcomings
pub mod Listing
pub mod Runs
