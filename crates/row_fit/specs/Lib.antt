pub mod Seat
pub mod Reach
pub mod Row
