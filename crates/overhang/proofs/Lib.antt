pub mod BorderLaws
pub mod FillLaws
pub mod LinesLaws
pub mod HangLaws
pub mod SpentLaws
pub mod RowLaws
