pub mod Asks
pub mod Clears
pub mod Outliving
pub mod Returning
