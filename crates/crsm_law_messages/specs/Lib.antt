pub mod SentMessages
pub mod Laws
pub mod Proposals
pub mod Counted
