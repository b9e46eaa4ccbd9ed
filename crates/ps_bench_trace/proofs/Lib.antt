mod Plays
-- a trace that is refused where a word stands
pub mod Refused
-- what is remarked of a word whose line is in no case
pub mod Remarked
