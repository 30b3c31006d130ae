pub mod Changes
pub mod Stack
pub mod Transfers
pub mod Executes
pub mod Laws
