pub mod SliceLengths
pub mod Lines
pub mod SetUp
pub mod JoinState
