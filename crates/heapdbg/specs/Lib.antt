-- What the program's tasks do, and the endings of the program.
pub mod ServeOutcomes
pub mod ServedHeaps
pub mod Services
pub mod FetchOutcomes
pub mod PageExplorations
pub mod Runs
