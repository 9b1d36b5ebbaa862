pub mod Ends
pub mod WordRooms
pub mod Words
