-- How a call comes to what the source of a name stands for.
use Rattle.std.specs.Prelude.{◌≡◌, ℕ, List, Some, IsTrue}
use Rattle.ps_flow.specs.Derivation.{certificate}
use Rattle.ps_model.specs.Network.{Network}
use Rattle.ps_accepted.specs.Answering.{IsFrontHeld}
use Rattle.ps_accepted.specs.Demanding.{GivesLines}
use Rattle.ps_accepted.specs.Source.{counts}
use Rattle.ps_top.specs.Asking.{Worked, worked}
use Rattle.ps_top.specs.Calls.{CallSeen, Passes}
use Rattle.ps_top.specs.Program.{with_checked, with_text}

-- These bytes decide of the source of a name.
abbrev pub AreOfSource : (name : List ℕ) (call : CallSeen) → List ℕ → Type 0
AreOfSource name call bytes = IsTrue call.files.tells → IsFrontHeld bytes (call.files.held name)

-- The source of a name gives this, and the call went on without a failure and wrote nothing. So much is left of the
-- source.
pub record Finds {A : Type 0} (Gives : List ℕ → A → Type 0) (Left : List ℕ → (before work : Worked) → Type 0)
    (name : List ℕ) (old new : CallSeen) (found : A) : Type 0 where
  pub passes : Passes old new
  pub gives : IsTrue old.files.tells → (text : List ℕ) × (old.files.held name ≡ Some text) × Gives text found
      × Left text (worked old.left) (worked new.left)

-- the text stands for an application none of whose demands is too large, and these are their lines
abbrev pub HasLines : List ℕ → List ℕ → Type 0
HasLines text lines = (net : Network) × GivesLines net text lines

-- the bytes of a source are left, and the counts of the certificate of an application
abbrev pub leaves_both : Network → List ℕ → (before work : Worked) → Type 0
leaves_both net source before work = work ≡ with_checked (counts net (certificate net)) (with_text source before)
