pub mod TagStanding
pub mod TagCallLaws
pub mod TagRanLaws
