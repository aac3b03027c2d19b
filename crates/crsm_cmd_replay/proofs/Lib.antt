pub mod Exact
pub mod Happened
pub mod OneText
