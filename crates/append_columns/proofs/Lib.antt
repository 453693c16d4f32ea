pub mod SheetLaws
pub mod OldLaws
pub mod TaggedLaws
pub mod BelowLaws
pub mod EveryLaws
pub mod LayLaws
pub mod CallLaws
