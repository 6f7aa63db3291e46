pub mod Growth
pub mod NumberedLines
pub mod TextLaws
