pub mod Pieces
pub mod Taking
pub mod Gathering
pub mod Answering
pub mod Gather
pub mod Arriving
