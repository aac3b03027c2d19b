pub mod Ending
pub mod Texts
pub mod Dumps
pub mod Run
pub mod Reading
pub mod Catalogs
