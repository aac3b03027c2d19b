pub mod Sheets
pub mod Texts
pub mod Batches
pub mod Stages
pub mod Replaying
pub mod Laws
