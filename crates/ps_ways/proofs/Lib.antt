-- alternatives of a guard; how agreement in each state is one in all; each kind
pub mod Choices
pub mod Agreeing
pub mod EachKind
-- the marks of a step, and pins in a number
mod Marking
pub mod Pins
-- the words of conditions and of states
mod Wording
pub mod StateWording
