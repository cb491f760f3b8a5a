pub mod History
pub mod Points
pub mod OneMorePoint
pub mod CutPath
