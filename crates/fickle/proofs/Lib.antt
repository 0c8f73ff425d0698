pub mod Befalling
pub mod Outliving
