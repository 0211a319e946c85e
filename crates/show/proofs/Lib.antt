pub mod Linking
pub mod Walks
pub mod Held
pub mod Told
pub mod Followed
pub mod Whole
pub mod Ends
