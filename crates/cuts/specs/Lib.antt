-- The cuts of a walk over rows; nothing here is to be believed.
pub mod Steps
