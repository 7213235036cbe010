pub mod Records
pub mod Holding
