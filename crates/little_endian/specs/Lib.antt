pub mod Bytes
pub mod Numbers
pub mod PatternSteps
pub mod Widths
pub mod ByteRows
