pub mod Walks
pub mod Tallying
pub mod Breaking
pub mod Giving
