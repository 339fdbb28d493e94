-- Steps of the code that contracts need. Nobody need believe these: theorems tie them to the definitions.
pub mod Letters
pub mod Prefix
pub mod Search
