pub mod Hits
pub mod Best
pub mod Last
pub mod Cells
pub mod Chains
pub mod Walks
pub mod Sweeps
