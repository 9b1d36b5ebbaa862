pub mod Files
pub mod Filings
pub mod OwnHelp
pub mod OwnLines
pub mod Sources
