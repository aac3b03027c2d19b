pub mod Collecting
pub mod Frozen
pub mod Premises
pub mod Paging
pub mod Starts
pub mod Keeping
