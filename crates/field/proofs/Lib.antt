-- Laws of the definitions, for this crate's proofs and for the crates above.
pub mod Sum
pub mod Ring
pub mod Degrees
pub mod Division
pub mod Field
pub mod Doubling
pub mod Inverses
pub mod Irreducibility
pub mod Completeness
pub mod ProductTable
pub mod Calls
pub mod Limits
