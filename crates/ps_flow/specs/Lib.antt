pub mod Lines
pub mod Written
pub mod Read
pub mod Words
pub mod Derivation
pub mod Refusals
pub mod Certifies
