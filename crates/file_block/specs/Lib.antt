pub mod Checks
pub mod BlockTests
pub mod Parts
