-- The laws of this crate.
pub mod LesserTally
pub mod TallyShows
pub mod ShownBelow
