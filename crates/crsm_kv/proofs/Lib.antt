pub mod KeysLemmas
pub mod ClientsLemmas
pub mod StoredLemmas
