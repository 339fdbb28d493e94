-- The definitions that the contracts of `text` cite. To be believed: all.
pub mod Text
pub mod Reading
pub mod Writing
