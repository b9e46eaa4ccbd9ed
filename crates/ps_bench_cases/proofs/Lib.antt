-- what is read of a file, line by line, and that each of its cases can be run
pub mod ReadLines
pub mod SaidInputs
pub mod Rising
pub mod Running
pub mod Placing
pub mod RunningFiles
pub mod Rooming
-- the trace of all cases, which is read back
pub mod Pieces
pub mod Points
pub mod Shifted
pub mod ReadBack
pub mod HeaderBack
pub mod TraceBack
pub mod OneLines
pub mod LegibleFiles
pub mod HexPairs
-- the case of a file that has a line
pub mod CaseWith
