pub mod Tally
pub mod CellList
