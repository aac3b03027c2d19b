pub mod Grammar
pub mod Transcript
