pub mod ReadItems
pub mod ReadValues
pub mod ToldRecords
pub mod FoundNames
pub mod ToldClasses
pub mod ToldObjects
pub mod ToldImages
pub mod DumpsOfShown
