pub mod Turns
pub mod Steps
pub mod Parts
pub mod Tasks
