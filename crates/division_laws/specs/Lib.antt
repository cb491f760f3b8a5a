pub mod Maps
pub mod Says
pub mod SameBits
pub mod MarkCounts
pub mod Rules
pub mod Checks
