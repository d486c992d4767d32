pub mod KeptLaws
pub mod WrittenLaws
pub mod AnswerLaws
pub mod Outcomes
pub mod Twice
