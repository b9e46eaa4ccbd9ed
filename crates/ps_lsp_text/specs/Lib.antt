-- what the server sends for a message, and what it publishes of a text: what a reader of the clauses has to believe
pub mod Serving
pub mod Answering
pub mod Publishing
pub mod Asking
pub mod Stages
pub mod Published
-- the texts that are open, and what is found in one: what a reader of the clauses has to believe
pub mod Texts
pub mod Findings
pub mod Pieces
-- what stands at a place of a text: which tokens it shows, what they declare, and where a name is declared
pub mod Looking
pub mod Declaring
pub mod Defining
-- what is told of a place
pub mod Sections
pub mod Calls
pub mod Driving
pub mod Describing
pub mod Hovering
pub mod Demands
pub mod Showing
-- what a text declares
pub mod Outlining
-- what may be written at a place
pub mod Completing
-- what is answered by these
-- texts, lists and objects of JSON that are being made, and findings that are being told
pub mod Made
pub mod Spots
pub mod Telling
