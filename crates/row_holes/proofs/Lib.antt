pub mod FilledLaws
pub mod PieceLaws
pub mod Pushing
pub mod ThroughLaws
pub mod RowLaws
pub mod TextLaws
