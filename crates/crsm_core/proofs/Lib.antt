pub mod Fitting
pub mod FoundLemmas
pub mod RequestLemmas
pub mod FrameLemmas
pub mod OwedLemmas
pub mod CommitLemmas
pub mod TickLemmas
pub mod StepLemmas
