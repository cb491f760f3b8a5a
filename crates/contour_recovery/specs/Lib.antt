pub mod ContourRecovery
pub mod RecoveredContours
