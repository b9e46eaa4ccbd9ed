-- what the text of a source gives: what a reader of the clauses has to believe
pub mod Source
-- what comes of a text with function blocks
pub mod Flattening
-- what the readers of sources answer
pub mod Answering
-- what the text of a source gives where the demands of its outputs are asked for
pub mod Demanding
