-- the number of `load`
pub mod Numbers
-- what `clap` makes of the words of each command
pub mod GivenBack
-- the subcommands, as they are added
pub mod Adding
