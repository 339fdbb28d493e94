-- The definitions of matrices over any field. To be believed: all but Steps.
pub mod Operations
pub mod Matrix
pub mod Places
pub mod Steps
