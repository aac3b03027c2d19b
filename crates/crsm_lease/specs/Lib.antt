pub mod Locks
pub mod Rules
pub mod Texts
