pub mod Arguments
pub mod Images
pub mod Numerals
pub mod Faults
