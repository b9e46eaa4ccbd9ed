-- what a block does alone, and what traces show
pub mod Applying
pub mod Calling
pub mod Counting
pub mod CoverDeciding
pub mod Fixing
pub mod InTime
pub mod Inputs
pub mod Joining
pub mod Knowing
pub mod Listed
pub mod Listings
pub mod Looking
pub mod Making
pub mod Numbering
pub mod Searched
pub mod Showing
pub mod Standing
pub mod Taken
pub mod Unshown
-- pins that are fixed
pub mod Allowing
-- what the text of the report cites
pub mod Capitals
pub mod Chains
pub mod Counts
pub mod Made
pub mod OfTraces
