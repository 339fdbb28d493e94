-- The definitions that the contracts of `checks` cite, and what document 01 says of refusals. To be believed: all but Steps.
pub mod Answers
pub mod Stated
pub mod Steps
