pub mod Lines
pub mod LineLaws
pub mod Follow
pub mod Checked
pub mod SetLaws
pub mod Steps
pub mod FollowLaws
pub mod CheckedLaws
