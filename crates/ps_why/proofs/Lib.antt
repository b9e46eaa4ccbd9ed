-- formulas, guards and blocks by what is said, each fact by its grounds, and all of an explanation
pub mod Valued
pub mod Deciding
pub mod Taking
pub mod Resting
pub mod Enough
pub mod Grounded
-- operands that are named, and literals and ways, one after another
pub mod Listing
pub mod Telling
pub mod Operated
pub mod Guarding
pub mod Guarded
-- what is said of what a step reads, that a scan is seen as it is, and that facts come to those that were found
pub mod Adding
pub mod Readings
pub mod So
pub mod Outputs
pub mod Seeing
pub mod Moving
pub mod More
pub mod Told
pub mod Blocks
pub mod Kept
pub mod Rooted
pub mod Settling
pub mod Making
-- a fact rests on its reasons
pub mod Reasoned
pub mod Listed
