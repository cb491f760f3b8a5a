pub mod Labels
pub mod FilledRange
pub mod TwoParts
pub mod LeftOut
pub mod FirstFailing
pub mod Outcome
