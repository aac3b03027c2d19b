pub mod Arriving
pub mod PacketPorts
pub mod Outcomes
pub mod States
pub mod Machine
