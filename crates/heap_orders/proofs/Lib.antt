pub mod WaitingRegions
pub mod CycleSteps
pub mod RetakenSteps
