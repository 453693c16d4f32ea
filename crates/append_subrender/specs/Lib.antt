pub mod Inputs
pub mod Misfit
pub mod Prefixes
