pub mod Filled
pub mod Pieces
pub mod Through
pub mod Row
pub mod Text
