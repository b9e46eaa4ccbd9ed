-- What a watcher writes of the items of a trace, by what its world answers and what the items mean.
use Rattle.std.proofs.Common.{◌≡◌, ◌∙◌, ℕ, Bool, true, false, List, [], ◌∷◌, Option, Some, None, Result, map, refl, sym, ap, ap₂, subst, arith}
use Rattle.ps_bench_names.specs.declared.name.Name.{Name}
use Rattle.ps_bench_judge.specs.Moments.{Moment}
use Rattle.ps_bench_judge.specs.Named.{value_in}
use Rattle.ps_model.specs.Meaning.{Runs, nothing}
use Rattle.ps_model.specs.Network.{Network}
use Rattle.ps_model.specs.Scanning.{State}
use Rattle.ps_model.specs.Sound.{IsSound}
use Rattle.ps_trace.specs.Scans.{Scans}
use Rattle.ps_runs.specs.Doing.{Did}
use Rattle.ps_runs.specs.Performing.{Performs}
use Rattle.ps_runs.specs.Watching.{Watches}
use Rattle.ps_runs.specs.Written.{WritesLines}
use Rattle.ps_runs.specs.declared.items.Cut.{Cut}
use Rattle.ps_runs.specs.declared.striking.StruckWorld.{StruckWorld}
use Rattle.ps_runs.specs.declared.watching.Watched.{Watched}
use Rattle.ps_runs.proofs.ToCome.{first_stands}
use Rattle.ps_bench_waves.proofs.Seeing.{watched}
use Rattle.ps_bench_waves.specs.Lines.{Cell, restart_text, scan_text}
use Rattle.ps_bench_waves.specs.Room.{cell_of, cells_of, renewed}
use Rattle.ps_bench_waves.specs.Watched.{IsBegun, lines_of}
use Rattle.ps_bench_waves.specs.Watcher.{TakesRestart, TakesScan, next_columns, seen_behind, watcher_said, watcher_takes}
use Rattle.ps_bench_waves.specs.Watching.{Before, at_first, at_restart, behind_scan, cell_in, moment_text}
use Rattle.ps_bench_waves.specs.declared.column.Column.{Column}
use Rattle.ps_bench_waves.specs.declared.format.Format.{Format}
use Rattle.ps_bench_waves.specs.declared.watcher.Watcher.{Watcher}

-- the names of columns
abbrev names_in : List Column → List Name
names_in columns = map (λ (c : Column). c.name) columns

module _ (net : Network) where
  -- columns have the values of a scan
  abbrev ValuesAre : Moment → List Column → Type 0
  ValuesAre m [] = Unit {0}
  ValuesAre m (c ∷ columns) = (c.field.value ≡ value_in net m c.name) × ValuesAre m columns

  -- columns, of which the next scan is or is not a first one, have the values of the last scan
  abbrev KnowsLast : Option Moment → Bool → List Column → Type 0
  KnowsLast None is_first columns = is_first ≡ true
  KnowsLast (Some m) is_first columns = (is_first ≡ false) × ValuesAre m columns

  -- after a scan they have its values, and their names
  values-renewed : (is_first : Bool) (m : Moment) (columns : List Column) → ValuesAre m (map (renewed net is_first m) columns)
  values-renewed is_first m [] = tt
  values-renewed is_first m (c ∷ columns) = (refl, values-renewed is_first m columns)

  names-renewed : (is_first : Bool) (m : Moment) (columns : List Column) →
      names_in (map (renewed net is_first m) columns) ≡ names_in columns
  names-renewed is_first m [] = refl
  names-renewed is_first m (c ∷ columns) = ap (λ (names : List Name). c.name ∷ names) (names-renewed is_first m columns)

  -- they are shown as a scan has them: of a first scan
  first_cells : (r : Bool) (m : Moment) (columns : List Column) →
      cells_of (map (renewed net true m) columns)
      ≡ map (cell_in net (record { last = None; is_restarted = r }) m) (names_in columns)
  first_cells r m [] = refl
  first_cells r m (c ∷ columns) =
      ap (λ (cells : List Cell). cell_of (renewed net true m c) ∷ cells) (first_cells r m columns)

  -- and of a later one
  later_cells : (r : Bool) (m0 m : Moment) (columns : List Column) → ValuesAre m0 columns →
      cells_of (map (renewed net false m) columns)
      ≡ map (cell_in net (record { last = Some m0; is_restarted = r }) m) (names_in columns)
  later_cells r m0 m [] known = refl
  later_cells r m0 m (c ∷ columns) known =
      ap₂ (λ (v : ℕ) (cells : List Cell). (record { name = c.name; before = Some v; value = value_in net m c.name }) ∷ cells)
      known.0 (later_cells r m0 m columns known.1)

  cells_are : (b : Before) (m : Moment) (is_first : Bool) (columns : List Column) → KnowsLast b.last is_first columns →
      cells_of (map (renewed net is_first m) columns) ≡ map (cell_in net b m) (names_in columns)
  cells_are b m is_first columns known = go b.last refl is_first known
    where
      go : (o : Option Moment) → b.last ≡ o → (f : Bool) → KnowsLast b.last f columns →
          cells_of (map (renewed net f m) columns) ≡ map (cell_in net b m) (names_in columns)
      go None e f known =
          let first : f ≡ true = subst (λ (o : Option Moment). KnowsLast o f columns) e known in
          ap (λ (f : Bool). cells_of (map (renewed net f m) columns)) first
          ∙ first_cells b.is_restarted m columns
          ∙ ap (λ (o : Option Moment). map (cell_in net (record { last = o; is_restarted = b.is_restarted }) m) (names_in columns)) (sym e)
      go (Some m0) e f known =
          let both = subst (λ (o : Option Moment). KnowsLast o f columns) e known in
          ap (λ (f : Bool). cells_of (map (renewed net f m) columns)) both.0
          ∙ later_cells b.is_restarted m0 m columns both.1
          ∙ ap (λ (o : Option Moment). map (cell_in net (record { last = o; is_restarted = b.is_restarted }) m) (names_in columns)) (sym e)

module _ (net : Network) (format : Format) (names : List Name) where
  -- a watcher knows what was seen before
  record Knows (b : Before) (w : Watcher) : Type 0 where
    format_is : w.format ≡ format
    names_are : names_in w.columns.items ≡ names
    restarted_is : w.next.is_restarted ≡ b.is_restarted
    values : KnowsLast net b.last w.next.is_first w.columns.items

  -- what a watcher writes of a scan is what is to be written of it
  said_scan : (b : Before) (w : Watcher) (m : Moment) → Knows b w →
      scan_text net w.format m.now w.next.is_restarted m.verdict (cells_of (next_columns net w m))
      ≡ moment_text net format names b m
  said_scan b w m knows =
      ap (λ (f : Format). scan_text net f m.now w.next.is_restarted m.verdict (cells_of (next_columns net w m))) knows.format_is
      ∙ ap (λ (r : Bool). scan_text net format m.now r m.verdict (cells_of (next_columns net w m))) knows.restarted_is
      ∙ ap (λ (cells : List Cell). scan_text net format m.now b.is_restarted m.verdict cells)
      (cells_are net b m w.next.is_first w.columns.items knows.values
      ∙ ap (λ (ns : List Name). map (cell_in net b m) ns) knows.names_are)

  -- after a scan a watcher knows of it
  knows_scan : (b : Before) (w w' : Watcher) (m : Moment) → Knows b w → TakesScan net w m w' → Knows (behind_scan m) w'
  knows_scan b w w' m knows takes = record {
    format_is = takes.format ∙ knows.format_is;
    names_are = ap names_in takes.columns ∙ names-renewed net w.next.is_first m w.columns.items ∙ knows.names_are;
    restarted_is = takes.is_restarted;
    values = (takes.is_first, subst (ValuesAre net m) (sym takes.columns) (values-renewed net w.next.is_first m w.columns.items));
  }

  knows_restart : (b : Before) (w w' : Watcher) → Knows b w → TakesRestart w w' → Knows at_restart w'
  knows_restart b w w' knows takes = record {
    format_is = takes.format ∙ knows.format_is;
    names_are = ap names_in takes.columns ∙ knows.names_are;
    restarted_is = takes.is_restarted;
    values = takes.is_first;
  }

-- a run from its beginning
pub watched_run : (net : Network) → IsSound net → (format : Format) (names : List Name) (time : ℕ) (p : Watched StruckWorld)
    (w : Watcher) (scans : Scans) (bytes : List ℕ) (ended : Result (Unit {0}) Cut) (after : Watched StruckWorld) (w' : Watcher) →
    IsBegun net format names p w →
    Did (Watches Performs net) (watcher_said net) (watcher_takes net) time p w scans bytes ended after w' →
    (ws : List State) → Runs net nothing scans.items ws →
    WritesLines (lines_of net format names p.performer scans.items ws) scans.end bytes ended
watched_run net sound format names time p w scans bytes ended after w' begun did ws means =
    watched net sound p.performer.faults (watcher_said net) (watcher_takes net)
    (moment_text net format names) (λ b m. behind_scan m) (restart_text format) (λ b. at_restart) (Knows net format names)
    (λ b w p now v r knows. said_scan net format names b w (seen_behind p now v r) knows)
    (λ b w p now v r w' knows takes. knows_scan net format names b w w' (seen_behind p now v r) knows takes)
    (λ b w p knows. ap restart_text knows.format_is)
    (λ b w p w' knows takes. knows_restart net format names b w w' knows takes)
    time 0 p w scans bytes ended after w' nothing at_first ws
    (first_stands net p.performer begun.world) begun.evaluator (omega arith) means
    (record { format_is = begun.format_is; names_are = begun.names_are; restarted_is = begun.not_restarted; values = begun.is_first }) did
