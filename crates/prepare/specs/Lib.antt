pub mod PreparedSlices
pub mod SlicesKept
pub mod Marks
pub mod Reset
pub mod FrameSlices
