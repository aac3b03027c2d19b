pub mod Happenings
pub mod Laws
