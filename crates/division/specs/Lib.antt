pub mod Kinds
pub mod Tallies
pub mod Counts
pub mod RulesKept
pub mod NotDrawn
pub mod EnteredFirst
pub mod ByPoints
pub mod Theorem
