-- what words ask: what a reader of the clauses has to believe
pub mod Asking
-- what `clap` is asked to read
pub mod Commands
-- how the code has it
pub mod Seen
