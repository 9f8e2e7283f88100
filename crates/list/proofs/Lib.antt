pub mod HeaderLaws
pub mod RecordLaws
pub mod WritingLaws
