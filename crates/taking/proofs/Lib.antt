pub mod CountLaws
pub mod JoinLaws
