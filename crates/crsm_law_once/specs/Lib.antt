pub mod Numbered
pub mod Laws
pub mod Example
