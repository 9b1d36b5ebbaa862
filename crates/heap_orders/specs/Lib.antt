pub mod Collections
pub mod Redos
pub mod Deeds
