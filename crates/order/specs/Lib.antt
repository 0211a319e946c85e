pub mod Trying
pub mod Divisors
pub mod TheStride
pub mod WrittenOrder
pub mod ShuffledOrder
pub mod Shuffle
pub mod Coprime
