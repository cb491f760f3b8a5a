pub mod HexDigits
pub mod Places
