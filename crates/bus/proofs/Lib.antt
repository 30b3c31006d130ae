pub mod Requests
pub mod Feeding
pub mod Bounds
pub mod Noting
pub mod Tapping
pub mod Halves
pub mod Flatness
pub mod Serving
