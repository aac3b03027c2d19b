pub mod Transcript
pub mod Causes
pub mod Rules
pub mod Laws
pub mod Run
