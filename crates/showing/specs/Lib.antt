pub mod Walk
pub mod Text
pub mod Shown
pub mod Reading
