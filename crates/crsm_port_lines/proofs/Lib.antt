pub mod Texts
pub mod Stream
pub mod Ends
pub mod Pieces
pub mod UpToDate
pub mod Splits
pub mod BadLines
pub mod Exact
