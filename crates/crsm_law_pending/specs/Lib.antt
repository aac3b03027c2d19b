pub mod Posts
pub mod Agendas
pub mod Following
