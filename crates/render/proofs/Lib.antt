pub mod Adding
pub mod Finishing
pub mod Answering
