pub mod Obligations
pub mod Found
pub mod Kept
pub mod Safe
pub mod Follow
pub mod Forgotten
