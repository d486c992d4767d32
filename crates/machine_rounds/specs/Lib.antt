pub mod Rounds
pub mod RoundLaws
pub mod Keeps
pub mod Turns
pub mod Counted
