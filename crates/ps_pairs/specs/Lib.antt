-- what a reader of the promise has to believe: what is promised of two applications, and what is told of them
pub mod Promised
pub mod Answering
-- the system that is searched: two machines side by side, and what is asked of each
pub mod Sides
pub mod Outputs
-- the laws
pub mod Telling
pub mod Unread
-- apparatus: what is known of a pair of states
pub mod Standing
pub mod Keys
-- a source in the order of an application: what a reader of the clauses has to believe
pub mod Arranging
-- apparatus: which names are taken
pub mod Wanting
