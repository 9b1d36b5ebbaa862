pub mod Actors
pub mod Cycles
pub mod Dumps
pub mod Mutators
pub mod Totals
