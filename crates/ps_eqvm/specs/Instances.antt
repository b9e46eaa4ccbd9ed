-- The sixteen bytes of an instance, as the code reads them: before it knows whether the kind can keep what they say.
use Rattle.std.specs.Prelude.{◌≡◌, ℕ, List, take, drop, Some, None}
use Rattle.ps_model.specs.declared.kind.Kind.{Kind}
use Rattle.ps_model.specs.Kept.{Kept}
use Rattle.ps_model.specs.Stored.{loaded, IsKept}
use Rattle.ps_eqvm.specs.Plain.{complement}

-- the plain values of the sixteen bytes that are stored from a place on
abbrev pub sixteen_at : (at : ℕ) → (stored : List ℕ) → List ℕ
sixteen_at at stored = take 16 (drop at (complement stored))

-- For a kind that can keep this the bytes load so, and for other kinds they do not load.
pub record LoadAs (bytes : List ℕ) (k : Kept) : Type 0 where
  pub kept : (kind : Kind) → IsKept kind k → loaded kind bytes ≡ Some k
  pub others : (kind : Kind) → (IsKept kind k → ⊥) → loaded kind bytes ≡ None

-- the bytes load for no kind
abbrev pub LoadNowhere : List ℕ → Type 0
LoadNowhere bytes = (kind : Kind) → loaded kind bytes ≡ None
