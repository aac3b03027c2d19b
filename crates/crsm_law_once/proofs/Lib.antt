mod Serving
mod Keeping
pub mod Places
mod Laws
mod Repeats
