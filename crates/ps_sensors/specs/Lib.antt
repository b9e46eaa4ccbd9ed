pub mod Contacts
pub mod Stop
