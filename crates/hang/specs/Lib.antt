pub mod Labels
pub mod Linked
pub mod Hand
pub mod Next
pub mod Text
