pub mod Bounds
mod Inside
