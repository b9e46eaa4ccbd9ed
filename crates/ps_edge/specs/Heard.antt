-- What a listener hears of a call.
use Rattle.std.specs.Prelude.{◌≡◌, ◌⊎◌, ◌++◌, ℕ, Bool, IsTrue, List}
use Rattle.ps_edge.specs.Hearing.{ListenerSeen, heard_of}

-- such a text was heard, as far as there is room for it
abbrev pub HearsText : (IsText : List ℕ → Type 0) → ListenerSeen → (after : List ℕ) → Type 0
HearsText IsText who after = (text : List ℕ) × IsText text × (after ≡ who.heard ++ heard_of who.room text)

-- What a listener hears of a call of which such a text is told, which takes memory or takes none, where nobody reads the
-- call's output any more or somebody does.
pub record IsHeard (is_closed : Bool) (IsText : List ℕ → Type 0) (takes_memory : Bool) (who : ListenerSeen)
    (after : List ℕ) : Type 0 where
  -- It hears nothing where nobody reads the output any more, and nothing where it asks for no messages.
  pub closed : IsTrue is_closed → after ≡ who.heard
  pub quiet : IsTrue who.quiet → after ≡ who.heard
  -- In every other case it hears what is told; or nothing, where that takes memory and memory is out.
  pub told : ¬ IsTrue is_closed → ¬ IsTrue who.quiet →
      HearsText IsText who after ⊎ (IsTrue takes_memory × (after ≡ who.heard))
