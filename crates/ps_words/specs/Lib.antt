-- what words ask: what a reader of the clauses has to believe
pub mod Command
-- how the code has it
pub mod Seen
-- what `clap` is asked to read
pub mod Parsing
