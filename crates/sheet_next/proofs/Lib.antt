pub mod RowsLaws
pub mod StepLaws
pub mod DownLaws
pub mod AnswerLaws
