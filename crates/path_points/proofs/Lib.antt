pub mod PutPoint
pub mod WalkBack
