pub mod Walk
pub mod Hold
pub mod Steps
