pub mod Texts
pub mod Sheets
pub mod Handled
pub mod Exact
pub mod Ran
pub mod Answered
