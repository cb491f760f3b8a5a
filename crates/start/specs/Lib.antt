pub mod OrientedContours
pub mod Agrees
