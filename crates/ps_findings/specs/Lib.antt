-- what a reader must believe: which comments of a text are odd, where notes are told, what is told of a field of the
-- reports, and what is said of words that are not taken
pub mod Comments
pub mod Places
pub mod Fields
pub mod Usage
-- apparatus: what was found of odd comments so far and where a walk over a text is, and what is told while it is
-- written
pub mod Walking
pub mod Said
