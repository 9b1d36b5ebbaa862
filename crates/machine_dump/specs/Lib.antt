pub mod HandedPieces
pub mod SourceEnds
pub mod PinSupplies
pub mod PinDumps
pub mod FreshSupplies
pub mod Streams
-- What clauses here, and proofs above, cite of the crates below.
pub use Rattle.heap_class.specs.declared.IdSize
pub use Rattle.heap_class.specs.declared.LostCause
pub use Rattle.heap_class.specs.declared.Refusal
pub use Rattle.heap_trail.specs.Machine
pub use Rattle.heap_trail.specs.Pins
pub use Rattle.heap_pins.specs.Images
pub use Rattle.hprof_text.specs.Image
pub use Rattle.hprof_text.specs.Segments
pub use Rattle.hprof_text.specs.Text
