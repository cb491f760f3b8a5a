pub mod HeldCache
pub mod CacheMoves
pub mod QueryNeeds
pub mod FrameCaches
pub mod CutPath
pub mod OneStopped
