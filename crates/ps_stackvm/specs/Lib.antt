-- What a reader must believe: what channel A's bytes are, what a turn does, what the compiler writes, and when cells
-- stand for a state.
pub mod Traps
pub mod Cells
pub mod Instructions
pub mod Stack
pub mod Calling
pub mod Readies
pub mod Turn
pub mod Channel
pub mod Code
pub mod Stands
pub mod Restoring
-- One step of an instance, in its sixteen bytes and in the cells: what the CALLs of channels A and C share.
pub mod Stepping
