pub mod Links
pub mod Placing
pub mod Answer
pub mod Orderly
pub mod Counts
pub mod NamesOf
pub mod Laws
pub mod Keeps
