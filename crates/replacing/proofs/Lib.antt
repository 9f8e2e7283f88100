pub mod CopyLaws
pub mod ChangeLaws
