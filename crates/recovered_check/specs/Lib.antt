pub mod Runs
pub mod Vertices
pub mod Entries
pub mod Theorem
