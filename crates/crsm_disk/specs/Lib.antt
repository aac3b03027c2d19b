pub mod Meaning
pub mod Contract
pub mod Unknown
pub mod Memory
pub mod Past
pub mod Ranges
pub mod Inside
