pub mod Kinds
pub mod Limits
pub mod Classes
pub mod Refusals
pub mod Table
pub mod Equal
pub mod Entries
pub mod Functions
