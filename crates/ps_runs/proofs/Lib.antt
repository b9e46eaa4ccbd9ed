mod Coming
pub mod Firsts
pub mod ToCome
pub mod Doing
mod Cutting
pub mod Standing
pub mod SeatFaults
mod SeatScans
pub mod Courses
