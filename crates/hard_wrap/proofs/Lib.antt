pub mod Walks
pub mod Glyphs
pub mod Closing
pub mod Turns
pub mod Piecewise
pub mod Fronts
pub mod Words
pub mod Blanks
