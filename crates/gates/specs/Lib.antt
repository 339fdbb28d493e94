-- The gates of a matrix product (document 02, Two), what a list of gates computes, and what is promised of it. To be believed: all but Steps.
pub mod Gates
pub mod Wires
pub mod Netlist
pub mod Steps
