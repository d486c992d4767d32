-- The laws of this crate.
pub mod Able
pub mod Decision
pub mod Emitting
pub mod FireCall
pub mod Fired
pub mod FiredHistory
pub mod Frame
pub mod Given
pub mod Moves
pub mod Operators
pub mod Run
pub mod Waits
