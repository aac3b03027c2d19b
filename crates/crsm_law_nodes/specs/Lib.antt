pub mod Addresses
pub mod Sheets
