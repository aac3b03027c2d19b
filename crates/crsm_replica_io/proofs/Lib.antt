mod Headers
pub mod Lengths
mod Receiving
mod Sending
