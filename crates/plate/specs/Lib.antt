pub mod Answer
pub mod PassedCounts
pub mod Props
pub mod Sound
