pub mod Coordinator
pub mod Stages
pub mod Retries
