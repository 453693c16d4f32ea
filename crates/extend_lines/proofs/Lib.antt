pub mod Growing
pub mod Naming
pub mod Handing
pub mod Emitting
pub mod Refusing
pub mod Copying
