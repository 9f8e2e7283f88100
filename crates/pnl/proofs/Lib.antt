pub mod Returns
pub mod Bytes
pub mod CallLaws
