pub mod PageLaws
pub mod Pieces
pub mod Decimal
pub mod LineLaws
pub mod ByteLaws
