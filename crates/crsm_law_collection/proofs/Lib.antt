pub mod Orderly
pub mod Law
pub mod Freeze
pub mod Suffices
pub mod Pages
pub mod Prefixes
pub mod Keep
pub mod Choosing
