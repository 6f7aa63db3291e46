pub mod ByteLemmas
pub mod TextLemmas
pub mod ReadingLemmas
pub mod LineLaws
