pub mod Answers
pub mod Addresses
pub mod Orders
pub mod Plans
pub mod Split
pub mod Table
