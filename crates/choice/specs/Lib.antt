pub mod Choosable
pub mod Way
