pub mod Honest
pub mod Laws
pub mod Cases
