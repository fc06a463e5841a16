pub mod PostMoves
pub mod HandMoves
pub mod Crosses
pub mod SeatMoves
