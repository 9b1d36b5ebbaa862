pub mod OwnAsks
pub mod SupplySteps
pub mod ToldStreams
pub mod LiveTexts
pub mod SentDumps
pub mod GuardAsks
