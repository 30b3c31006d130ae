pub mod Calls
pub mod Replaying
pub mod Twins
pub mod Agreeing
