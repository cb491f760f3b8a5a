pub mod Resets
pub mod Begins
