pub mod WordEnds
pub mod Differences
pub mod FirstLines
pub mod WordRooms
