pub mod Events
pub mod Transcripts
