-- what a scan makes of an open expectation
pub mod Windows
-- tests of failures, reported and left
pub mod Passing
-- what statements ask for, in parts
pub mod Tasks
-- how a rig and its judge come from one place of a run to another
pub mod Going
-- what was reported of a whole case
pub mod Judged
-- the turns of its loops
pub mod Turns
