pub mod Numbers
pub mod Seats
pub mod Worlds
pub mod Ordered
pub mod LogWorlds
pub mod Witness
pub mod CommitWorlds
