pub mod ColsLaws
pub mod OverlapLaws
pub mod Segments
pub mod DrawLaws
pub mod WidthLaws
pub mod LineLaws
pub mod TellLaws
