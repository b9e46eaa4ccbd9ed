-- What is kept from scan to scan. Nothing here is part of what is promised.
use Rattle.std.specs.Prelude.{◌≡◌, ◌≢◌, ◌==◌, ◌||◌, not, ℕ, Bool, false, List, Some, None, length, slice_get}
use Rattle.std.specs.Prelude.{if◌then◌else◌}
use Rattle.ps_model.specs.Meaning.{Past, last, nothing}
use Rattle.ps_model.specs.Network.{Network, input_count, instance_count}
use Rattle.ps_why.specs.Keeping.{AreKept, StandFor}
use Rattle.ps_why.specs.declared.keeping.Stepped.{Stepped}
use Rattle.ps_why.specs.declared.call.CallScene.{CallScene}
use Rattle.ps_runs.specs.Watching.{IsEvaluatorFor, StandsAt}
use Rattle.ps_bench_why.specs.declared.walker.Since.{Since}
use Rattle.ps_bench_why.specs.declared.walker.Walker.{Walker}

-- a walker has the application's sizes
pub record IsWalkerFor (net : Network) (w : Walker) : Type 0 where
  pub evaluator : IsEvaluatorFor net w.evaluator
  pub kept : AreKept net w.kept.items
  pub since : length w.since.items ≡ instance_count net
  pub inputs : length w.scan.ins ≡ input_count net
  pub outputs : length w.report.outs ≡ length net.outputs
  pub diagnoses : length w.report.diags ≡ instance_count net

-- an instance before the first scan: its block is Idle
abbrev pub renewed : Stepped → Stepped
renewed s = record {
  call = s.call;
  block = record { code = 0; last_reset = false; last_auxiliary = false; mode = 0; remains = 0 };
}

-- since when an instance is in its state, where a scan at a time shows this of it
abbrev pub noted : CallScene → (now : ℕ) → (first : Bool) → Since → Since
noted call now first s = record {
  before = s.behind;
  behind = if first || not (call.from == call.code) then now else s.behind;
}

-- A walker stands where a run has come to. Where the next scan is a first one nothing of before is read.
abbrev pub StandsBehind : Network → Past → Walker → Type 0
StandsBehind net nothing w = w.before ≡ None
StandsBehind net (last now v) w =
    (w.before ≡ Some now) × StandsAt net (last now v) w.evaluator × StandFor net v w.kept.items

-- and it is noted since when each instance is in its state
abbrev pub AreNoted : (before : ℕ → ℕ) → List Since → Type 0
AreNoted before since = (i : ℕ) (s : Since) → slice_get since i ≡ Some s → s.behind ≡ before i

-- how late the last scan was that its evaluator made, in ms
abbrev pub latest : Walker → ℕ
latest w = w.evaluator.last
