-- the formulas and when they hold, the demand of a value, what is slim, how a formula and the lines of all outputs are
-- written, and the laws: what a reader believes
pub mod Requirement
pub mod Demand
pub mod Slim
pub mod Texts
pub mod Lines
pub mod Laws
pub mod Leaves
-- apparatus: what is answered, how the program's formulas are seen and hashed, how long each is needed, and what the
-- passes keep for each signal
pub mod Answering
pub mod Views
pub mod Hashing
pub mod Wanted
pub mod Passes
