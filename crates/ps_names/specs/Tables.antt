-- What a table of names has.
use Rattle.std.specs.Prelude.{◌≡◌, ℕ, List, is_some}
use Rattle.std.specs.List.{list_any}
use Rattle.ps_base.specs.LetterCase.{is_same_name}
use Rattle.ps_parser.specs.declared.name.Name.{Name}
use Rattle.ps_names.specs.declared.table.Table.{Table}
use Rattle.ps_names.specs.NameTables.{place_in, Indexes}
use Rattle.ps_names.specs.declared.entry.Entry.{Entry}

-- the table has each declared name, with the place of its first declaration
abbrev pub IndexesDeclared : Table → List Entry → Type 0
IndexesDeclared t es = Indexes (λ e. e.name) t es

-- the table has these names and no others
abbrev pub Has : Table → List Name → Type 0
Has t ns = (q : List ℕ) → is_some (place_in t q) ≡ list_any (λ n. is_same_name q n.text) ns
