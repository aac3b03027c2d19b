pub mod Numbered
pub mod Taking
