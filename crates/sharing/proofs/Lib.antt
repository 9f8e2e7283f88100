pub mod EightLaws
pub mod ShareLaws
