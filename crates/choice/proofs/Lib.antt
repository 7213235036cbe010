pub mod Steps
pub mod Tops
pub mod Ways
pub mod Walks
pub mod Choosable
