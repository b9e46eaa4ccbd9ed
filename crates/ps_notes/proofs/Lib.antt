pub mod Walking
pub mod Past
