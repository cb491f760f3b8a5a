pub mod BoxReading
