pub mod Sheet
pub mod SubRenderer
pub mod Answer
pub mod Base
