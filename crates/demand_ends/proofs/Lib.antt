-- The laws of this crate.
pub mod Credit
pub mod Push
pub mod PushLinks
pub mod ResultBytes
pub mod Take
pub mod TakeLinks
