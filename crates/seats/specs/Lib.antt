pub mod Row
pub mod Survey
