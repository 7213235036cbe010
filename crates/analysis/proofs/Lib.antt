pub mod Rounded
pub mod Ranks
pub mod Integers
pub mod Laxity
pub mod Counted
pub mod Near
