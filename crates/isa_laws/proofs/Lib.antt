pub mod Digits
pub mod Law
pub mod Listed
pub mod Readings
