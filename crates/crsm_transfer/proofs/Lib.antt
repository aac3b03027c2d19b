pub mod NewLemmas
pub mod PageLemmas
