pub mod Prefixes
pub mod Steps
pub mod Cores
pub mod Stages
pub mod StepTexts
pub mod Spelt
pub mod BadLogs
mod Ledgers
