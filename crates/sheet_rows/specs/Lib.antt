pub mod Tallies
pub mod Bodies
