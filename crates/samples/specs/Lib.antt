pub mod Vertices
pub mod Owners
pub mod OwnerLaws
pub mod PlatedSlice
pub mod Chains
pub mod Walks
pub mod FrameSamples
