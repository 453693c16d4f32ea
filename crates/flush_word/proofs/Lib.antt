pub mod Modes
pub mod Trimming
pub mod Flushing
pub mod Wrapping
