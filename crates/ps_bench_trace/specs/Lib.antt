-- what is run where a word stands in the place of a trace
pub mod Playing
-- what such a word comes to, whatever is written of that
pub mod Coming
-- the faults that strike, and how a call ends that is refused
pub mod Opening
-- how a call stops at a word in the place of a trace
pub mod Refusing
-- what is remarked of such a word
pub mod Remarking
