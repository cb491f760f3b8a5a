pub mod AnswerStructs
