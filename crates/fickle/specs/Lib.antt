pub mod Drawing
pub mod Rule
pub mod Leaving
pub mod Thinning
pub mod Laws
pub mod Outliving
