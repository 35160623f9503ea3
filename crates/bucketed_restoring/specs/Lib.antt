pub mod Private
pub mod RestoringSteps
