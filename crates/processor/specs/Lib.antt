pub mod Entering
pub mod Sampling
pub mod Stepping
pub mod Jobs
pub mod Laws
