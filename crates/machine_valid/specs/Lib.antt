pub mod Below
pub mod Valid
pub mod Figures
pub mod Ports
