pub mod Newest
pub mod Listed
pub mod Finding
pub mod Answers
