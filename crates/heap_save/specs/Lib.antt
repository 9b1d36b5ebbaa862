pub mod Saves
pub mod LateOutlets
