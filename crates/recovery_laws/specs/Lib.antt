pub mod FirstFailing
pub mod Vertices
pub mod ByKind
pub mod LandedVertices
pub mod AllLanded
pub mod Runs
pub mod Points
