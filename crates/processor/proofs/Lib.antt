pub mod Bounds
pub mod Performing
mod JobLaws
