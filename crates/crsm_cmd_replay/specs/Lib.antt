pub mod Causes
pub mod Rules
pub mod Run
pub mod Laws
