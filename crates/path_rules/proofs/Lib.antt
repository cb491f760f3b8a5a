pub mod FreshLandings
pub mod FreshCuts
pub mod MarkKinds
pub mod ByKind
pub mod NextWords
