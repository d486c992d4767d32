pub mod TallyCounts
pub mod TallyShows
pub mod LesserTally
