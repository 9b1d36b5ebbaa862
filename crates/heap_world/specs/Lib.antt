pub mod Limits
pub mod State
pub mod Legal
pub mod Reach
pub mod Events
pub mod Functions
pub mod HeapParts
-- What clauses here, and proofs above, cite of the crates below.
pub use Rattle.heap_region.specs.Limits as RegionLimits
pub use Rattle.heap_region.specs.Live
pub use Rattle.heap_region.specs.Pool
pub use Rattle.heap_region.specs.Regions
pub use Rattle.heap_mark.specs.Functions as MarkFunctions
pub use Rattle.heap_mark.specs.MarkSteps
pub use Rattle.heap_mark.specs.declared.Phase
pub use Rattle.heap_sweep.specs.Functions as SweepFunctions
pub use Rattle.heap_sweep.specs.Sweep
