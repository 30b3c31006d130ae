pub mod State
pub mod Machines
pub mod Operands
pub mod Sameness
pub mod SamenessLaws
