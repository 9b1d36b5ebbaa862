pub mod Words
pub mod AskedSettings
pub mod GivenOptions
pub mod MadeParsers
pub mod Mistakes
pub mod NamedTasks
pub mod AskedTexts
