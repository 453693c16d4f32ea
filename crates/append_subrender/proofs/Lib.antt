pub mod Pairing
pub mod Refusing
pub mod Waiting
pub mod Adding
pub mod Stacking
pub mod Telling
pub mod Calling
