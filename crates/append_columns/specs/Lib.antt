pub mod Last
pub mod Sheet
pub mod Old
pub mod Below
pub mod Lay
