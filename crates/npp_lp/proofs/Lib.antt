pub mod Adding
pub mod Joining
pub mod Verdicts
pub mod Writing
