pub mod Walk
pub mod Split
