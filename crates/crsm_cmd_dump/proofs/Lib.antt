pub mod KeysLemmas
pub mod ClientsLemmas
pub mod Following
pub mod Chains
pub mod TakenBytes
pub mod Listing
pub mod Endings
pub mod Unique
