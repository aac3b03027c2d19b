pub mod LeaderWords
pub mod Answering
pub mod Words
pub mod Changing
pub mod Calming
