pub mod Again
pub mod Musts
pub mod Staying
pub mod Answering
pub mod Telling
pub mod Counted
pub mod Served
