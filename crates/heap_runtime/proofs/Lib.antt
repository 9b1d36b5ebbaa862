pub mod CappedSums
pub mod StepAnswers
pub mod Claiming
pub mod OwnClaims
pub mod CycleEnds
pub mod ActorAudits
pub mod OpenGates
pub mod WatchedDumps
