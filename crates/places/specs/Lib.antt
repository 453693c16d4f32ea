pub mod Holes
pub mod Border
