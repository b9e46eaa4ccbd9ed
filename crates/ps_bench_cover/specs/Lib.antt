-- the scans of the traces that are named, what `cover` is asked, what it writes by that, and how it stops
pub mod Adding
pub mod Asking
-- where the operands stand that decide, as they are written: what a reader of the promise has to believe
pub mod Operands
pub mod Standing
pub mod OfOperands
-- beginnings of cases for ways that were never taken
pub mod Ideas
-- what the loop over a trace makes of what was shown
pub mod Taking
-- apparatus: what is reported, by what is kept, and the parts of an idea
pub mod Telling
pub mod Shares
-- what a call leaves of files and of an output, for `report`
pub mod Leaving
-- what it comes to of its traces, whatever is written of that
pub mod Coming
