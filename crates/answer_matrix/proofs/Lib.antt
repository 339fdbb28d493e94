-- Laws of the lines of a gate list, of the values of a request, and of what is asked of a matrix.
pub mod GateLines
pub mod Values
pub mod Requests
