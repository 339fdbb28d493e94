-- The definitions that the contracts of `calls` cite. To be believed: all.
pub mod Records
pub mod Replies
