pub mod ReadTo
