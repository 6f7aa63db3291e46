pub mod HandedLaws
pub mod TextLaws
