pub mod Rows
pub mod Missing
pub mod Book
pub mod Invariant
pub mod Runs
pub mod Law
