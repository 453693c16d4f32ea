pub mod Walk
pub mod Body
