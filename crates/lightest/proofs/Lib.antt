-- The laws that the walk is proved by.
pub mod LetterCounts
pub mod Prefixes
pub mod Start
