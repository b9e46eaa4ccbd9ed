-- What a line of a trace that comes as a stream says, and the number that is told of it.
use Rattle.std.specs.Prelude.{◌≡◌, ℕ, Bool, List}
use Rattle.ps_base.specs.declared.failing.Refusal.{Refusal}
use Rattle.ps_base.specs.declared.failing.Rule.{Rule}
use Rattle.ps_lines.specs.Lines.{Line}
use Rattle.ps_model.specs.declared.report.Scan.{Scan}
use Rattle.ps_trace.specs.Scans.{at_line, inputs_of, said_of}
use Rattle.ps_trace.specs.Trace.{Said}
use Rattle.ps_trace.specs.Trace.Said.{skips, restarts, scans, breaks}
use Rattle.ps_bench_watch.specs.Coming.{told_number}
use Rattle.ps_bench_watch.specs.declared.feed.Fed.{Fed}
use Rattle.ps_bench_watch.specs.declared.feed.Fed.TheVariants.{Nothing, Restart, Scan as AScan, End}

-- a refusal as it is told
abbrev pub told : Refusal → Refusal
told refusal = at_line refusal.rule (told_number refusal.place.line)

-- What a line said, by what was given of it: after a scan at the time `last`, with these places of the inputs' values,
-- and with the scan that was written.
abbrev pub Says : Fed → (places : List ℕ) → (last last' : ℕ) → (before after : Scan) → Said → Type 0
Says Nothing places last last' before after said = (said ≡ skips) × (after ≡ before) × (last' ≡ last)
Says Restart places last last' before after said = (said ≡ restarts) × (after ≡ before) × (last' ≡ last)
Says AScan places last last' before after said =
    (values : List Bool) × (said ≡ scans after.now values) × (after.ins ≡ inputs_of places values) × (last' ≡ after.now)
Says End places last last' before after said = ⊥

-- A line with this number is refused after a scan at the time `last`, and this is told.
pub record IsBroken (names last number : ℕ) (line : Line) (refusal : Refusal) : Type 0 where
  pub rule : Rule
  pub broken : said_of names last line ≡ breaks rule
  pub told_so : refusal ≡ at_line rule number
