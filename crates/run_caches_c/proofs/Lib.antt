pub mod ArgumentTests
pub mod FirstStage
pub mod StageLaws
pub mod LastStage
