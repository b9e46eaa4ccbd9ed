-- Apparatus: function blocks that are laid flat, as the program keeps them.
pub mod Laying
