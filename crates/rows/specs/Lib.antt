-- Rows: their order, what is refused of the values, when they are good, how they are compared, walks over them, and the row that is demanded. To be believed: all but Steps.
pub mod Lightest
pub mod Candidates
pub mod Shape
pub mod Keys
pub mod Walks
pub mod Demands
pub mod Steps
