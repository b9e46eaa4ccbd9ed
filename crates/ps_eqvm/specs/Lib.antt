-- What a reader of the promise has to believe: the cells with their plain content, the rows, what each row leaves, the
-- turn, the code of an application, and when cells stand for a state.
pub mod Plain
pub mod Traps
pub mod Opcodes
pub mod Rows
pub mod Acting
pub mod Turn
pub mod Channel
pub mod Code
pub mod Stands
pub mod Restoring
-- Apparatus: the same as the functions of the machine have it.
pub mod Bits
pub mod LowBits
pub mod Finding
pub mod Gates
pub mod Pins
pub mod Instances
pub mod Readies
