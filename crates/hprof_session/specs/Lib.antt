pub mod Walks
pub mod Surveys
pub mod Places
