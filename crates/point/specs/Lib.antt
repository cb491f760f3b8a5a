pub mod Squares
pub mod UnsignedProducts
pub mod Order
pub mod Below
pub mod Bound
