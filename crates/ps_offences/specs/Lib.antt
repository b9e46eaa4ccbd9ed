-- the rules B on function blocks: what a reader believes
pub mod BlockRules
-- apparatus: what a tally of names has counted
pub mod Tallies
