mod Finding
mod Writing
