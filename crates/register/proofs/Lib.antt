pub mod Adding
pub mod Counting
pub mod Inserting
pub mod Seeking
pub mod Taking
