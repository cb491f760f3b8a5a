pub mod ContourOf
pub mod ContoursLeft
