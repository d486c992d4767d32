-- The laws of this crate.
pub mod AnyMemory
pub mod Ending
pub mod FeedLaws
pub mod Firings
pub mod LongLines
pub mod Onward
pub mod OpeningLaws
pub mod OutputLaws
pub mod OwnLines
pub mod PassLaws
pub mod Reached
pub mod Reading
pub mod StageLaws
pub mod WholeSets
