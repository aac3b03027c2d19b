pub mod Executed
pub mod Fields
pub mod Held
pub mod Pieces
pub mod Recovered
pub mod Sorted
pub mod Ledger
pub mod Taken
