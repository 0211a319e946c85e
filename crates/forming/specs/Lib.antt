pub mod Events
pub mod Places
pub mod Joins
pub mod Rewriting
