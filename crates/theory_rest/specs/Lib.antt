pub mod LoopFree
pub mod RestExamples
