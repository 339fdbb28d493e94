-- The definitions that the contracts of `search` cite, and what documents 01 and 02 say of refusals. To be believed: all.
pub mod Answer
pub mod Stated
