-- an argument is added
pub mod Adding
-- what was given to a command
pub mod Given
-- the commands, group by group
pub mod Groups
-- a list that is gone through from its beginning
pub mod Growing
-- the name and the rows of the subcommand that a parse met
pub mod Named
