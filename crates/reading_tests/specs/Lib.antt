pub mod Mute
pub mod Zeros
pub mod ZerosLaws
