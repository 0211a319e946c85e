pub mod After
pub mod Follow
