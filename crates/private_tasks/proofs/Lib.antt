pub mod Hindrances
pub mod SavedRuns
pub mod RunDumps
pub mod RunPairs
