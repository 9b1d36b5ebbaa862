pub mod DumpAnswers
pub mod JoinedActs
pub mod JoinedAnswers
pub mod SeatStations
pub mod StayingSeats
