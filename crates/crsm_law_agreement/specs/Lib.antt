pub mod Ballots
pub mod DecisionLaws
pub mod Openings
pub mod ListLaws
