pub mod Grammar
pub mod Sheets
pub mod Laws
