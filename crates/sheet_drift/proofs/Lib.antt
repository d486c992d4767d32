pub mod AnswerLaws
pub mod NoPair
