pub mod Sound
pub mod Stands
pub mod Frame
pub mod Given
pub mod Decision
pub mod Emitting
pub mod FiredHistory
pub mod Run
