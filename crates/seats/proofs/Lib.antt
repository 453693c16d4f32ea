pub mod RowLaws
pub mod SurveyLaws
pub mod PlainLaws
