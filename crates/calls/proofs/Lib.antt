-- Laws of records and replies.
pub mod Stored
pub mod Numbered
