pub mod Meters
pub mod Seats
pub mod Pipes
pub mod Feeds
pub mod Drains
pub mod Starts
pub mod Streams
pub mod Cancellables
pub mod Batches
pub mod BatchedSources
-- What clauses here, and proofs above, cite of the crates below.
pub use Rattle.atomic_table.specs.Seated
pub use Rattle.crossbeam_channel.specs.Claims
pub use Rattle.crossbeam_channel.specs.Ends
