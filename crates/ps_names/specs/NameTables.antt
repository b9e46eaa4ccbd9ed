-- What a table of names has.
use Rattle.std.specs.Prelude.{◌≡◌, ℕ, List, Option, position}
use Rattle.std.specs.Str.{bytes_eq}
use Rattle.indexmap.specs.IndexMap.{get_by}
use Rattle.ps_base.specs.LetterCase.{folded, is_same_name}
use Rattle.ps_parser.specs.declared.name.Name.{Name}
use Rattle.ps_names.specs.declared.table.Table.{Table}

-- the place that the table has of a text without letter case
abbrev pub place_in : Table → List ℕ → Option ℕ
place_in t text = get_by (λ k. bytes_eq (folded text) k.items) t.places

-- the table has each name of these items, with the place of the first item that has it
abbrev pub Indexes : {X : Type 0} → (X → Name) → Table → List X → Type 0
Indexes name_of t xs = (q : List ℕ) → place_in t q ≡ position (λ x. is_same_name q (name_of x).text) xs
