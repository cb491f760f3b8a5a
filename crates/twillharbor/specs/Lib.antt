pub mod Arguments
pub mod Refusals
pub mod RetraceStruct
pub mod StructAnswers
