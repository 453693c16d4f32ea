pub mod Holding
pub mod Laying
pub mod Tests
