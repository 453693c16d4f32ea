pub mod Items
pub mod Encode
pub mod Bridge
