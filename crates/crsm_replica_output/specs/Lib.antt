pub mod Made
pub mod Spellings
