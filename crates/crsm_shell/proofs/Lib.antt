mod BootLemmas
mod Boots
mod Cores
pub mod Files
mod Groups
mod Keeping
mod Making
mod NotBad
mod Pending
mod Ports
mod Propositions
mod Records
mod Turns
