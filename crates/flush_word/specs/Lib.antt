pub mod Modes
pub mod Trims
pub mod Keep
