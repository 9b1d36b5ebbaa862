pub mod LongerLists
pub mod JoinedPieces
pub mod PumpSteps
