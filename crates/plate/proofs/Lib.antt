pub mod Firsts
pub mod RowAnswers
