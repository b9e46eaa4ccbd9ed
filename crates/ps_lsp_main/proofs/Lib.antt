-- how far a server is by what it read, and how it ends by it
mod Standing
-- what is served of a stream, message by message
mod Streams
