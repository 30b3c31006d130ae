pub mod Back
pub mod Candidate
pub mod Fields
pub mod Mnemonics
pub mod Operands
