pub mod ScratchLaws
pub mod MeasureLaws
pub mod QuoteLaws
