pub mod Opening
pub mod Recording
pub mod Noting
pub mod Made
