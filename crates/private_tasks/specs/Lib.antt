-- What a task does over a heap of its own, and the endings of the program.
pub mod Endings
pub mod Explorations
pub mod PrivateRuns
pub mod SaveOutcomes
