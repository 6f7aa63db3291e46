pub mod IndexLemmas
pub mod EndLemmas
pub mod LimitLemmas
pub mod TollSetLemmas
pub mod TollSetLaws
pub mod TollRange
pub mod EndLaws
