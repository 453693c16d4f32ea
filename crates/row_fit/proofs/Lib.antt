pub mod SeatLaws
pub mod ReachLaws
pub mod FitLaws
pub mod HoleLaws
