pub mod SizeLaws
pub mod OwnLaws
pub mod GateLaws
