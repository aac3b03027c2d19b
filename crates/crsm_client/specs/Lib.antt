pub mod Exchange
pub mod Asking
pub mod Operating
pub mod Commands
pub mod Turns
