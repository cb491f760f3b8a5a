pub mod Parts
pub mod Rows
pub mod VertexPlaces
pub mod ReadPath
pub mod Outcome
