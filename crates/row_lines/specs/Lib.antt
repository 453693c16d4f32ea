pub mod Seat
pub mod Left
pub mod Mark
pub mod Row
pub mod Full
