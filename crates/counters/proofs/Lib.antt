pub mod Within
pub mod QuoteLaws
