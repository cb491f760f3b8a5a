pub mod DrawnByCalls
pub mod EnteredSteps
