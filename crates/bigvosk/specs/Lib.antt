pub mod Cuts
pub mod Numbers
pub mod Commands
pub mod Windows
pub mod Places
pub mod Answers
pub mod Scripts
