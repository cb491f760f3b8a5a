pub mod PlateFile
pub mod FileRows
