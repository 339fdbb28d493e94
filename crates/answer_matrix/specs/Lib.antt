-- The steps of the code that answers about a matrix; nothing here is to be believed.
pub mod Steps
