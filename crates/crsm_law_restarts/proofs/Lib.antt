pub mod Sizes
pub mod Logs
pub mod Lives
pub mod Chains
pub mod Alike
pub mod Nodes
pub mod Packets
