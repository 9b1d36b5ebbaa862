pub mod SpacedWords
pub mod EventWords
pub mod MoreLines
pub mod Digits
