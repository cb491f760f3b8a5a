pub mod DrawnContour
pub mod EnteredLength
