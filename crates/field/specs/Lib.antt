-- The definitions that the contracts of `field` cite, the product in the order of FIPS 197, and what document 01 says of refusals. To be believed: all but
-- Steps.
pub mod Polynomial
pub mod Doubling
pub mod Table
pub mod Faults
pub mod Fields
pub mod Stated
pub mod Steps
