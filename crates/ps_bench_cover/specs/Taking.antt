-- What the loop over a trace makes of what was shown.
use Rattle.std.specs.Prelude.{◌≡◌, ℕ}
use Rattle.ps_model.specs.Network.{Network}
use Rattle.ps_runs.specs.Outcomes.{Outcome, performed, refuses, anew}
use Rattle.ps_runs.specs.declared.watching.Evaluated.{Evaluated}
use Rattle.ps_model.specs.Meaning.{nothing}
use Rattle.ps_runs.specs.Watching.{StandsAt}
use Rattle.ps_cover.specs.Covers.{IsAt, IsCoverFor, Renews, TakesScan}
use Rattle.ps_cover.specs.Tallied.{IsUnseen, IsWhole}
use Rattle.ps_cover.specs.declared.cover.Cover.{Cover}
use Rattle.ps_machine.specs.declared.signals.Signals.{Signals}

-- A scan was taken that the evaluator made.
pub record TakesBehind (net : Network) (old : Cover) (e : Evaluated) (now : ℕ) (new : Cover) : Type 0 where
  pub signals : Signals
  pub before : signals.before.now ≡ e.before.signals
  pub behind : signals.behind.now ≡ e.behind.signals
  pub takes : TakesScan net old now signals new
  pub fits : IsCoverFor net new

-- what taking an outcome of the evaluator makes of what was shown
abbrev pub cover_takes : Network → Cover → Evaluated → Outcome (Unit {0}) → Cover → Type 0
cover_takes net old e (performed now done report) new = TakesBehind net old e now new
cover_takes net old e (refuses refusal) new = Unit {0}
cover_takes net old e anew new = Renews net old new

-- A trace is begun anew: by an evaluator in the first state, and with a cover that has seen nothing.
pub record IsBegun (net : Network) (e : Evaluated) (c : Cover) : Type 0 where
  pub stands : StandsAt net nothing e
  pub first : IsAt net nothing c
  pub whole : IsWhole net c
  pub unseen : IsUnseen c
