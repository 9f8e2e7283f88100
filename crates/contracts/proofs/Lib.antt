pub mod CallSteps
