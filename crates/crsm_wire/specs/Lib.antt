pub mod Sized
pub mod Inverse
pub mod Marks
