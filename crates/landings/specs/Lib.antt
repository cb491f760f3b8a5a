pub mod FallingLinks
pub mod Chain
pub mod LandedBefore
pub mod NextLandings
