pub mod OtherLaws
pub mod PassLaws
pub mod StepLaws
pub mod CallLaws
pub mod PartLaws
pub mod JoinLaws
