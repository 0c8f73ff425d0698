pub mod Banks
pub mod Calls
pub mod ListingLaws
pub mod Memories
pub mod Model
pub mod ReadsBack
pub mod ShapeLaws
pub mod Worked
