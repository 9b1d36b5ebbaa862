pub mod Supplies
pub mod Streams
pub mod StreamTexts
pub mod Dumps
pub mod Words
pub mod FailureLines
pub mod Guards
-- What clauses here, and proofs above, cite of the crates below.
pub use Rattle.dump_pipe.specs.Seats
