pub mod LandingCounts
pub mod Landings
pub mod Consistent
pub mod Points
pub mod Lengths
pub mod Theorem
