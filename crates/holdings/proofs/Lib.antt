pub mod Bools
pub mod Words
pub mod TakenWords
