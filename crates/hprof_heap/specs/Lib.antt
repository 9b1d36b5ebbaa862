pub mod ToldObjects
pub mod TakenEvents
pub mod DumpHeaps
pub mod Laws
