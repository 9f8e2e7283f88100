pub mod HeadLaws
pub mod ReserveLaws
pub mod FitLaws
