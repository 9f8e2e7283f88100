pub mod RecordLaws
pub mod Following
pub mod ListAgrees
pub mod Growing
