pub mod Answers
pub mod TableLaws
pub mod AnswerLaws
pub mod WritingLaws
pub mod Searchable
pub mod Measuring
