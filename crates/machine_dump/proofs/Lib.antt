pub mod UngivenMachines
pub mod PieceGiving
pub mod Texts
pub mod DumpPins
pub mod PumpedPins
pub mod SourceStreams
pub use Rattle.hprof_text.proofs.Lengths
