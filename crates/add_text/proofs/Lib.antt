pub mod Breaking
pub mod WordChars
pub mod Walking
pub mod Running
