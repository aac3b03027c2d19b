pub mod Nth
pub mod Tally
pub mod Packets
