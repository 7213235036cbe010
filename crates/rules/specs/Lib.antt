-- The rules, chapter by chapter in the order of document 01.
pub mod Words
pub mod Sheet
pub mod Reading
pub mod Fields
pub mod Record
pub mod Choice
pub mod Tick
pub mod Run
pub mod Bounds
pub mod Answers
pub mod Coded
pub mod Promises
pub mod Laws
pub mod Cases
