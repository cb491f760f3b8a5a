pub mod Results
pub mod Stages
