pub mod Open
pub mod Ticks
