pub mod Parts
pub mod Laid
