pub mod Held
pub mod Lent
pub mod Calls
pub mod Either
