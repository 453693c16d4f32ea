pub mod CAnswer
