pub mod PageHindrances
pub mod LoadedSeats
