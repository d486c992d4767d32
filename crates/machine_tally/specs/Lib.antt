pub mod Tallied
pub mod TallyLaws
