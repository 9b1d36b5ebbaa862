pub mod Lines
pub mod DumpLandings
pub mod SavedSessions
