pub mod Senses
pub mod Decide
pub mod GateLaws
pub mod LoopJoin
pub mod Tables
