-- The laws that the cuts are proved by.
pub mod Pruning
pub mod PlaneCuts
pub mod HadamardCuts
pub mod WalkCuts
pub mod LetterTest
pub mod CirculantCuts
pub mod Families
