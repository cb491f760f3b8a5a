pub mod SaneGrid
pub mod Props
pub mod Numbers
pub mod PlateGrid
