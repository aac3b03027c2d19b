mod Order
pub mod Kept
mod Replayed
