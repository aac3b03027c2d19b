mod Joined
mod Same
pub mod Lengths
pub mod Rising
pub mod Sums
