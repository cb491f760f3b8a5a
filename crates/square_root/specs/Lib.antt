pub mod Above
pub mod Inverse
pub mod Estimate
pub mod NewtonStep
pub mod PackedRoot
pub mod Steps
