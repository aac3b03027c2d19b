pub mod Sheets
pub mod Verdicts
pub mod Laws
