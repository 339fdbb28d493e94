-- The steps of the walk to the lightest row; nothing here is to be believed.
pub mod Steps
