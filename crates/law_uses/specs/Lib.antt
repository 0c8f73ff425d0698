pub mod ReadingBack
pub mod Restoring
