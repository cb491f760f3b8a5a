pub mod LengthsKept
