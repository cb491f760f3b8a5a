pub mod PathWords
pub mod Words
pub mod Props
pub mod Parts
