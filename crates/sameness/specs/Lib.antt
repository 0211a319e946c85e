pub mod Renaming
pub mod Reordering
pub mod Ends
pub mod Keeping
