pub mod Unlabelled
