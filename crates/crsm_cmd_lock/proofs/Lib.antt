pub mod Following
pub mod Firsts
pub mod Answered
