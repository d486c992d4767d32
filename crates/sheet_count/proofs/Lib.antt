pub mod CountLaws
pub mod OperatorLaws
