pub mod Waits
pub mod WaitingNumbers
pub mod NumberLaws
pub mod Leader
pub mod Picks
pub mod Holds
