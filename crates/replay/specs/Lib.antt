pub mod InTurn
pub mod LastWritten
pub mod Listing
pub mod Replaying
pub mod Script
pub mod Transcript
pub mod Worked
