pub mod LogCalls
pub mod Made
pub mod LinesMade
pub mod OneLog
