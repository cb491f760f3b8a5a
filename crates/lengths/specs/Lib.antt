pub mod Touches
pub mod Walks
pub mod ByContours
pub mod Theorem
