pub mod Run
pub mod RunLaws
pub mod Performed
pub mod Near
pub mod Rested
pub mod Marks
