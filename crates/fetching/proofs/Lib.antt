pub mod LineLaws
pub mod Agreeing
