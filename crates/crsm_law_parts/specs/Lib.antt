pub mod Handed
pub mod Cuts
pub mod Laws
pub mod Example
