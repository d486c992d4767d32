pub mod ResultBytes
pub mod PushLinks
pub mod TakeLinks
