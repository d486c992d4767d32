pub mod Links
pub mod Fire
pub mod Parts
pub mod LinkLaws
pub mod Moves
pub mod MoveLaws
pub mod LoopJoin
