pub mod Flags
pub mod VertexCounts
pub mod CutFlags
pub mod Lengths
pub mod PointPlaces
pub mod Outcome
