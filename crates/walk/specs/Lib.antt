-- The definitions that the contracts of `walk` cite. To be believed: all but Steps.
pub mod Answer
pub mod Steps
