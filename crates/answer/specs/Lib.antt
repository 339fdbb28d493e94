-- What documents 01 and 02 say of refusals, the demands' statements, and the reference lines. To be believed: all.
pub mod Limits
pub mod Demands
pub mod Reference
pub mod Steps
