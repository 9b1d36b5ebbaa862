pub mod Heads
pub mod WrittenHeads
