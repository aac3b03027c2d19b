pub mod Watching
pub mod Wishing
pub mod Wished
pub mod Detector
