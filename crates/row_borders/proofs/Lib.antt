pub mod LineLaws
pub mod MergeLaws
pub mod JoinLaws
pub mod BorderLaws
