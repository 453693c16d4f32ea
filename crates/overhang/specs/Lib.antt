pub mod Border
pub mod Filled
pub mod Hang
