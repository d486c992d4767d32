pub mod Making
pub mod AcceptedSheets
