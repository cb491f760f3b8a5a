pub mod Exact
pub mod BitPattern
pub mod DigitShifts
pub mod Signs
