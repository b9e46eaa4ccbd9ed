-- the bytes that decide of a text, and what the notice on it says
mod Deciding
mod AnswersTelling
-- what is said of a finding
mod Telling
-- lists that are being made
mod Adding
-- the last of the changes that a message gives
mod Lasting
-- the text of words
mod Utf8Text
-- what is held where a text is noted
mod HeldTexts
-- the tokens that a text shows, and what they declare
mod PlacesBefore
mod Prefixes
mod ShownTokens
mod AtTokens
mod AmongTokens
mod Definitions
-- what is told of a place
mod Growing
mod Capitals
mod OpenBrackets
mod SectionsAt
mod Drivers
mod Hovers
mod DemandLines
-- what a text declares
mod Spotted
mod Outlined
-- what may be written at a place
mod Items
mod Offered
