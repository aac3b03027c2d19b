pub mod Distinct
pub mod EventLaws
