pub mod Grammar
pub mod Times
pub mod Drafts
pub mod Advancing
pub mod Reading
pub mod Exactly
pub mod Upcoming
pub mod Following
