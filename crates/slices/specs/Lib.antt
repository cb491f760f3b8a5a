pub mod Over
pub mod Pairs
pub mod Outcome
