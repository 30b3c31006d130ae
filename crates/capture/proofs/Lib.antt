pub mod Walks
pub mod Matching
pub mod Feeding
pub mod Asking
pub mod Seals
pub mod Rounds
