pub mod Wrote
pub mod Pen
pub mod Props
pub mod WriterState
pub mod RunParts
pub mod WriterCalls
