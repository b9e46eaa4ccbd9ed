-- how long a message and the line of a note are
pub mod Bounds
pub mod NoteBounds
