-- Laws of what a search is refused for, and of its answer.
pub mod Refusals
pub mod Limits
