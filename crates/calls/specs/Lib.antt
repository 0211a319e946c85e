pub mod Calls
pub mod CallLaws
pub mod Made
