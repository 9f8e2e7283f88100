pub mod Labelling
pub mod Changes
