pub mod Admitted
pub mod Jobs
pub mod Moments
pub mod Order
pub mod Places
pub mod Pulls
pub mod Reads
