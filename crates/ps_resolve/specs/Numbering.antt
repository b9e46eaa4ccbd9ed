-- The numbers that are kept beside declared names.
use Rattle.std.specs.Prelude.{◌≡◌, ℕ, ◌+◌, ◌≤◌, List, Some, length, slice_get}
use Rattle.ps_base.specs.declared.limits.TheConstants.{MOST_SIGNALS}
use Rattle.ps_names.specs.declared.entry.Entry.{Entry}
use Rattle.ps_names.specs.declared.entry.Sort.{Sort}
use Rattle.ps_names.specs.declared.entry.Sort.TheVariants.{InputSignal, OutputSignal, LocalSignal, Instance, Nothing}
use Rattle.ps_names.specs.Limits.{signals}
use Rattle.ps_names.specs.Stands.{number_as, outputs_before}
use Rattle.ps_resolve.specs.declared.limits.Counts.{Counts}
use Rattle.ps_resolve.specs.declared.numbers.Numbered.{Numbered}
use Rattle.ps_names.specs.declared.table.Table.{Table}
use Rattle.ps_names.specs.Tables.{IndexesDeclared}

-- the number of a name of a sort, where so many of each sort stand before it
abbrev pub number_in : Sort → Counts → Counts → ℕ
number_in (InputSignal t) all before = before.inputs
number_in (OutputSignal t) all before = all.inputs + before.outputs
number_in (LocalSignal t) all before = all.inputs + all.outputs + before.locals
number_in (Instance kind) all before = before.instances
number_in Nothing all before = 0

-- the numbers of the name that is declared at a place
abbrev pub numbers_at : List Entry → ℕ → Sort → Numbered
numbers_at es k sort = record { number = number_as es sort k; first = outputs_before es k }

-- the numbers of these declared names, in order
pub record AreNumbers (es : List Entry) (ns : List Numbered) : Type 0 where
  pub long : length ns ≡ length es
  pub each : (k : ℕ) (e : Entry) → slice_get es k ≡ Some e → slice_get ns k ≡ Some (numbers_at es k e.sort)

-- declared names within the limit on signals, with their table and their numbers
pub record IsNumbered (t : Table) (es : List Entry) (ns : List Numbered) : Type 0 where
  pub names : IndexesDeclared t es
  pub numbers : AreNumbers es ns
  pub few : signals es ≤ MOST_SIGNALS
