pub mod SpanLemmas
pub mod Bounded
pub mod ZeroCheapest
pub mod Progress
