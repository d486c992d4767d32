-- The laws of this crate.
pub mod IdleAgain
pub mod LoopFree
pub mod RestEmpty
pub mod RestExamples
pub mod SameState
