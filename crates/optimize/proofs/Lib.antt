pub mod Choices
pub mod Ends
pub mod Scan
pub mod Steps
