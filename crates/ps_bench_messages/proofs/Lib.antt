-- what is told of a call that stopped
mod Told
-- what is remarked, and what is not
pub mod Remarked
