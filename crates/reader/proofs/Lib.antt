pub mod Places
pub mod Walked
