pub mod FieldLaws
pub mod PassLaws
pub mod TableLaws
