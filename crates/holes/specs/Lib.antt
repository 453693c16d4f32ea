pub mod Overlap
pub mod Cols
pub mod Drawing
