pub mod Commits
pub mod Moments
pub mod SoFar
