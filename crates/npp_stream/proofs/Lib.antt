pub mod NamedLemmas
pub mod StreamLemmas
pub mod PieceLemmas
pub mod FileLemmas
