-- What the printing program prints, and the room that it asks for.
pub mod Text
pub mod Room
pub mod Laws
