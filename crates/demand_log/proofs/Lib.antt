-- The laws of this crate.
pub mod AnswersTo
pub mod Checks
pub mod LinesMade
pub mod LogCalls
pub mod Logs
pub mod Made
pub mod OneLog
