pub mod EitherWay
pub mod EitherEnd
pub mod Roots
pub mod WholePart
pub mod RunningTotals
pub mod WalkedPath
