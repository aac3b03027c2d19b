pub mod Bytes
pub mod Calls
pub mod Image
pub mod Torn
