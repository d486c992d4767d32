-- The laws of this crate.
pub mod Alone
pub mod Calls
pub mod Demand3
pub mod Gate
pub mod Goes
pub mod LateNets
pub mod Load
pub mod LoadSets
pub mod Made
pub mod Piece
pub mod RoundsReady
pub mod Rows
pub mod Sets
pub mod Tape
pub mod Wiring
