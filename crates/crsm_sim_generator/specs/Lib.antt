pub mod View
pub mod Sequence
pub mod Drawing
pub mod Bytes
pub mod Possible
