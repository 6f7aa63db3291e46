pub mod PositiveMultipliers
pub mod Found
pub mod Work
pub mod Passes
pub mod FoundTolls
