pub mod RestLaws
pub mod RestLeft
