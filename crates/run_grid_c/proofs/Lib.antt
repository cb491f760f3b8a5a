pub mod WriteLoop
pub mod InsertStep
pub mod AnswerRange
pub mod MarkedSamples
