pub mod Going
pub mod Walk
pub mod Fitted
pub mod Logs
pub mod Ignored
pub mod Batches
