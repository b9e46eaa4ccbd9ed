-- What a reader must believe: what channel C's bytes are, what a turn does, what the compiler writes, how many turns a
-- scan may take, and when cells stand for a state.
pub mod Cells
pub mod Rows
pub mod Acting
pub mod Calling
pub mod Turn
pub mod Channel
pub mod Budget
pub mod Code
pub mod Stands
pub mod Restoring
