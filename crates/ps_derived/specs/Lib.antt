-- What a reader believes: how a whole text is spelt, what its bodies declare and see of function
-- blocks, names in copies, the flat source, its limits, and when each call gives all inputs.
pub mod Texts
pub mod Bodies
pub mod Interfaces
pub mod Renaming
pub mod Dotted
pub mod Spelling
pub mod Flat
pub mod Limits
pub mod Giving
-- Apparatus: what the counts are sums of.
pub mod Counting
