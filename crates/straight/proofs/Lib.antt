pub mod RunVertices
pub mod PathSoFar
pub mod OrderRuns
