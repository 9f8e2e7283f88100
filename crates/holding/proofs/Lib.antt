pub mod ReplayLaws
pub mod Regrowing
pub mod HeldLaws
