pub mod Rows
pub mod Pulling
pub mod Copy
pub mod Laws
