-- The words that the printing program prints, and the room that they ask for.
pub mod Words
pub mod Room
pub mod Laws
