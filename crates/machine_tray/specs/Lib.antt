pub mod Tray
pub mod TrayLaws
pub mod OneByOne
pub mod Lent
