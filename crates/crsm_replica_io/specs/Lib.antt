pub mod Input
pub mod Headers
pub mod Outgoing
