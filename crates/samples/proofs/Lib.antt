pub mod SampleWalk
pub mod ContourMarks
pub mod ChainPush
