pub mod Deciding
pub mod Digits
pub mod EqualDenominators
pub mod Halving
pub mod Pairs
pub mod Signs
pub mod WholeNumbers
pub mod Wider
