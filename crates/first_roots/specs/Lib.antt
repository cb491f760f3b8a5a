pub mod FirstRoots
pub mod Near
