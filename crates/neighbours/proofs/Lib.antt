pub mod ListCounts
pub mod Entry
pub mod ListFold
pub mod Around
