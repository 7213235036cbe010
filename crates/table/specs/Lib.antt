pub mod Table
pub mod Tasks
pub mod Steps
pub mod Limits
pub mod Bytes
