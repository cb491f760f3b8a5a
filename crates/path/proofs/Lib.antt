pub mod TouchesAsJumps
pub mod CountsAsJumps
pub mod WrittenDivision
