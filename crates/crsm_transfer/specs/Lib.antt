pub mod Fitting
pub mod Paging
