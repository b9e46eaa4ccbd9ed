pub mod LetterCase
