pub mod InTurn
pub mod Told
pub mod Traced
pub mod WorkInTurn
pub mod Waiting
