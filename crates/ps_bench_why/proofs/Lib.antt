-- a list with one more at its end
pub mod Ends
-- the instances, one after another
pub mod Noting
-- what is kept, from scan to scan
pub mod Going
-- a scan by what was kept before it
pub mod Taking
-- what comes of a call with an application
pub mod Coming
-- a scan that is found in what is held, and in what a word means
pub mod Finding
-- the places of facts
pub mod Placed
-- what is said of a scan
pub mod Reasons
-- lines that are written, one after another
pub mod Tellings
pub mod Ordered
-- what is remarked where nothing is asked for
pub mod Remarked
