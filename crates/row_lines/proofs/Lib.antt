pub mod LeftLaws
pub mod SeatLaws
pub mod Growing
pub mod MarkLaws
pub mod RowLaws
pub mod FullLaws
