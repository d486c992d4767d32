pub mod Sorts
pub mod Drifts
pub mod Moves
pub mod Within
pub mod Near
pub mod Outcomes
pub mod Sound
pub mod Ranged
