pub mod FirstContour
