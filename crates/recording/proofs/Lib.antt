pub mod UnlabelledLaws
pub mod Noting
pub mod Recorded
