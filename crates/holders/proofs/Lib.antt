pub mod Steps
pub mod Holders
pub mod Moves
