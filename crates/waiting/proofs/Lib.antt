pub mod LeadLaws
pub mod ChoiceLaws
pub mod BeginningLaws
