pub mod Rows
pub mod SurveyLaws
