pub mod Spans
pub mod LeastWalks
pub mod ZeroTolls
