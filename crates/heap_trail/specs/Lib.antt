pub mod Limits
pub mod Trail
pub mod Pins
pub mod OpenPins
pub mod Machine
pub mod Laws
pub mod Records
pub mod Past
pub mod Examples
pub mod DumpExamples
pub mod Functions
pub mod Headline
pub mod Views
pub mod Listings
-- What clauses here, and proofs above, cite of the crates below.
pub use Rattle.heap_world.specs.Events as HeapEvents
pub use Rattle.heap_world.specs.Limits as HeapLimits
pub use Rattle.heap_world.specs.MarkSteps
pub use Rattle.heap_world.specs.State
pub use Rattle.heap_world.specs.Sweep
pub use Rattle.heap_pins.specs.Images
pub use Rattle.hprof_text.specs.Image
