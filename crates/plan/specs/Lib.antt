pub mod Model
pub mod Places
pub mod Sound
pub mod Tally
pub mod Tests
pub mod Whole
