pub mod Buffers
pub mod Pieces
pub mod Encoded
pub mod HardWrap
pub mod Kept
