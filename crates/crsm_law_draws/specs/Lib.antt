pub mod Drawn
pub mod Founders
pub mod Laws
