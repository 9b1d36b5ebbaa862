pub mod Places
pub mod Probes
