pub mod PackedNumbers
pub mod Contours
pub mod UnpackedNumbers
