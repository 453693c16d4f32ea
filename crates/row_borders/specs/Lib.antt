pub mod Merge
pub mod Join
pub mod Border
