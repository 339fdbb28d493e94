-- The definitions that the contracts of every crate cite. To be believed: all.
pub mod Refusals
