-- The laws of this crate.
pub mod FieldTexts
pub mod KeptLaws
pub mod NamedTwice
pub mod NumberLaws
pub mod Occurring
pub mod Order
pub mod Rowwise
pub mod SameFormula
pub mod ShapeLaws
pub mod Sixth
pub mod Stays
pub mod TextLaws
pub mod Tidied
pub mod Written
