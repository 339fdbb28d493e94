-- Laws of refusals.
pub mod Faults
pub mod Tests
