mod Meeting
mod Calling
mod Completing
mod Applied
mod Standing
mod Joined
mod Timely
mod Meant
mod Faulted
mod Setups
mod Ruling
mod Safe
pub mod OneJudgement
mod OneAnswer
mod SomeAnswer
pub mod Refusals
mod Quiet
pub mod Untripped
mod Few
mod Counted
mod Courses
mod CourseMeant
mod Ending
mod Sourced
mod Checks
mod Demands
mod Opened
mod Ran
mod InWorld
mod InSeats
