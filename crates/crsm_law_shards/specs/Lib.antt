pub mod Served
pub mod Shards
pub mod Hash
pub mod Laws
pub mod Clusters
pub mod Example
