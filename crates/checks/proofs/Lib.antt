-- Laws of the faults of the calls on matrices.
pub mod CallFaults
pub mod Limits
