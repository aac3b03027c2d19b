pub mod Laws
pub mod New
pub mod Senders
pub mod Traffic
