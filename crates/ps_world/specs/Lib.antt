-- What a reader must believe: the world and its events, the verdicts, the conditions and steps, what lists of events
-- say, the order of events of a run, and the laws.
pub mod Worlds
pub mod Verdicts
pub mod Steps
pub mod Lists
pub mod Orders
pub mod Whole
pub mod Laws
pub mod Answers
pub mod Ready
