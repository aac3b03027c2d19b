pub mod Reading
pub mod Sound
pub mod Executed
pub mod BySlot
pub mod MpLedger
