pub mod ListedContours
pub mod MovedDown
pub mod Words
