pub mod Receiving
pub mod Reports
pub mod Rules
pub mod Stages
