-- What a tally of names has counted.
use Rattle.std.specs.Prelude.{◌≡◌, ℕ, List, nat_lt, is_some, count_by}
use Rattle.ps_base.specs.LetterCase.{is_same_name}
use Rattle.ps_parser.specs.declared.name.Name.{Name}
use Rattle.ps_names.specs.NameTables.{place_in}
use Rattle.ps_offences.specs.declared.tally.Tally.{Tally}

-- The tally has counted these names: it knows which stand among them, and which of them more than once.
pub record Counts (t : Tally) (ns : List Name) : Type 0 where
  pub once : (q : List ℕ) → is_some (place_in t.once q) ≡ nat_lt 0 (count_by (λ n. is_same_name q n.text) ns)
  pub again : (q : List ℕ) → is_some (place_in t.again q) ≡ nat_lt 1 (count_by (λ n. is_same_name q n.text) ns)
