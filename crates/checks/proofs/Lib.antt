pub mod HoleLaws
pub mod LineLaws
pub mod SplitLaws
pub mod SheetLaws
pub mod Passing
pub mod Verdicts
