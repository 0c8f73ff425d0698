pub mod ReadingBack
pub mod Rebuilds
