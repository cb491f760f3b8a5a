pub mod VertexRules
pub mod ReadSteps
