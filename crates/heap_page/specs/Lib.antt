pub mod Admission
pub mod PageAnswers
pub mod Moves
