pub mod Heads
pub mod Outputs
pub mod Instances
pub mod Calls
pub mod Gathering
pub mod Pairs
pub mod Popping
pub mod Restoring
