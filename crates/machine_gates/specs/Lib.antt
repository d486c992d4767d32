pub mod Decide
pub mod Rows
pub mod Gates
pub mod Tables
pub mod GateLaws
pub mod Words
pub mod LoopJoin
