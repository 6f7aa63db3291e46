pub mod Reach
pub mod Potentials
pub mod Shortest
pub mod Settling
pub mod Following
pub mod Keys
