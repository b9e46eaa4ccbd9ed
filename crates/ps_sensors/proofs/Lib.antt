pub mod SameContacts
pub mod SameStop
