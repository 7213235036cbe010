pub mod Nesting
pub mod Places
