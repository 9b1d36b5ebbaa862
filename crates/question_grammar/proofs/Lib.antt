pub mod FieldWords
pub mod NameWords
pub mod PlaceNames
pub mod WordParts
