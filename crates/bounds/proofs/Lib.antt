pub mod Steps
pub mod Counted
pub mod Bounds
pub mod Rows
