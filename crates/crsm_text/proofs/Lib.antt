pub mod WordsLemmas
pub mod Named
pub mod Texts
pub mod Commas
pub mod TextLaws
pub mod Hex
pub mod Rows
mod Copies
mod Digits
mod Lower
mod Pages
