pub mod Grammar
pub mod Reads
pub mod Lines
