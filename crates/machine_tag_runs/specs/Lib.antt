pub mod TagRunLaws
pub mod PlainFirings
pub mod TagMarks
