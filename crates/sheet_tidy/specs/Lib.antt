pub mod Rows
pub mod Tidying
pub mod Outcomes
