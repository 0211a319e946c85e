pub mod Slices
pub mod Streams
pub mod Packing
pub mod Shapes
pub mod Order
pub mod Proper
pub mod Numbers
