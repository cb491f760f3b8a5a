pub mod Backwards
pub mod TotalsByPoint
