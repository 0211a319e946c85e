pub mod Classes
pub mod Shapes
pub mod Packed
pub mod Numbers
pub mod Tokens
pub mod Answer
pub mod Limits
