-- What stands past the arguments of a call.
use Rattle.std.proofs.Common.{◌≡◌, ℕ, ◌≤◌, List, length}
use Rattle.std.proofs.lemmas.List.{get_or_past}
use Rattle.ps_model.specs.Action.{Actual, free}
use Rattle.ps_notes.specs.Notes.{at_pin}

-- nothing does
pub nothing_past : (args : List Actual) (p : ℕ) → length args ≤ p → at_pin args p ≡ free
nothing_past args p past = get_or_past args p free past
