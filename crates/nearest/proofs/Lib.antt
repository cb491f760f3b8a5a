pub mod Rank
pub mod Answers
pub mod NearerPoint
pub mod Border
pub mod Rings
pub mod Loops
