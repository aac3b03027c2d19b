pub mod Collecting
pub mod Coordinating
pub mod Pages
pub mod Reports
pub mod Union
