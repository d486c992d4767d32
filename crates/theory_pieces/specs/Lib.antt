-- The root of the specs.
pub mod Load
pub mod Goes
pub mod Gate
pub mod Piece
pub mod Rows
pub mod LoadSets
pub mod Sets
pub mod Demand3
pub mod Tape
