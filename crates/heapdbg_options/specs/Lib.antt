-- The meaning of the program's command line.
pub mod CommandLine
pub mod Numbers
pub mod Parsers
pub mod Refusals
-- What clauses here, and proofs above, cite of the crates below.
pub use Rattle.heap_class.specs.declared.IdSize
pub use Rattle.heap_world.specs.Limits as HeapLimits
