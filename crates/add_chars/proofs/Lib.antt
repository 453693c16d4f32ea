pub mod Wording
pub mod Stopping
