pub mod Opened
pub mod Collected
pub mod FoundWays
pub mod NameIds
pub mod KnownDumps
pub mod PairSessions
pub mod SecondDumps
pub mod JoinedLines
