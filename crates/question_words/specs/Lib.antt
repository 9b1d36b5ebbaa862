pub mod Appends
pub mod Ids
pub mod Moments
pub mod Names
pub mod Rows
pub mod ClassSlots
pub mod Places
