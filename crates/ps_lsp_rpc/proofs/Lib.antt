mod Growing
mod Lengths
mod Saying
mod Sent
mod Taking
