pub mod Lists
pub mod Facts
pub mod Slots
pub mod Peers
pub mod Steps
pub mod Pieces
pub mod Whole
pub mod Bridge
