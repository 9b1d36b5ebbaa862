pub mod Limits
pub mod SeatEntries
pub mod HomeTables
pub mod Calls
pub mod Dumpers
pub mod LedgerSides
pub mod Ledgers
pub mod SeatTables
pub mod Roles
pub mod Collector
pub mod LockStates
pub mod Blanks
pub mod Sources
pub mod Laws
-- What clauses here, and proofs above, cite of the crates below.
pub use Rattle.atomic_table.specs.Seated
pub use Rattle.heap_class.specs.Table as RefusalTable
pub use Rattle.heap_class.specs.declared.IdSize
pub use Rattle.heap_class.specs.declared.LostCause
pub use Rattle.heap_class.specs.declared.Refusal
pub use Rattle.heap_mark.specs.declared.Phase
pub use Rattle.heap_world.specs.Limits as HeapLimits
pub use Rattle.heap_world.specs.State
pub use Rattle.heap_step.specs.Apply
pub use Rattle.heap_step.specs.declared.Answer
pub use Rattle.heap_step.specs.declared.Event
pub use Rattle.hprof_text.specs.Segments
pub use Rattle.hprof_text.specs.declared.Piece
pub use Rattle.heap_trail.specs.Images
pub use Rattle.heap_trail.specs.Laws as TrailLaws
pub use Rattle.heap_trail.specs.Limits as TrailLimits
pub use Rattle.heap_trail.specs.Machine
pub use Rattle.heap_trail.specs.declared.Action
pub use Rattle.heap_trail.specs.declared.Reply
pub use Rattle.heap_history.specs.Audits
pub use Rattle.heap_history.specs.History
pub use Rattle.heap_history.specs.Limits as ChronicleLimits
pub use Rattle.heap_history.specs.declared.audits.Verdict
pub use Rattle.heap_history.specs.declared.entry.Entry
pub use Rattle.heap_history.specs.declared.entry.Outcome
pub use Rattle.heap_history.specs.declared.receipt.Receipt
