-- The steps of the code on branch numbers and involutions; nothing here is to be believed.
pub mod Steps
