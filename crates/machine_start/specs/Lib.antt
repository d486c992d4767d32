pub mod Start
pub mod StartLaws
pub mod ReadBack
pub mod HeaderLaws
pub mod Completed
pub mod SheetTables
pub mod Letters
pub mod Untaken
