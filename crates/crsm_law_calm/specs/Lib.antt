pub mod Calm
pub mod Rounds
pub mod Laws
pub mod Cases
