-- The steps of a survey's code; nothing here is to be believed.
pub mod Steps
