-- Apparatus: the scan that was found, by what is kept of it.
use Rattle.std.specs.Prelude.{◌≡◌, ℕ, List, Option, Some}
use Rattle.ps_bench_frame.specs.Opening.{Source}
use Rattle.ps_model.specs.Network.{Network}
use Rattle.ps_bench_why.specs.Looking.{IsLast}
use Rattle.ps_bench_why.specs.Scanned.{Scanned}
use Rattle.ps_bench_why.specs.Walking.{AreNoted, IsWalkerFor, StandsBehind, latest}
use Rattle.ps_bench_why.specs.declared.walker.Walker.{Walker}
use Rattle.ps_model.specs.Meaning.{nothing}
use Rattle.std.specs.Prelude.{None}
use Rattle.ps_bench_why.specs.Asking.{IsFoundAt, IsFoundIn}

-- a walker before the first scan
pub record IsBegun (net : Network) (w : Walker) : Type 0 where
  pub fits : IsWalkerFor net w
  pub stands : StandsBehind net nothing w
  pub noted : AreNoted (λ i. 0) w.since.items
  pub none : w.last ≡ None
  pub due : latest w ≡ 0

-- what is kept is so of the scan that is found in the trace that is held
abbrev pub WalksHeld : Network → (held : Option (List ℕ)) → (time : ℕ) → Walker → Type 0
WalksHeld net held time w =
    (trace : List ℕ) × (held ≡ Some trace) × (found : Option Scanned) × IsFoundIn net trace time found × IsLast net found w

-- and in what a word means
abbrev pub WalksWord : Source → (word : List ℕ) → (time : ℕ) → Walker → Type 0
WalksWord from word time w = (found : Option Scanned) × IsFoundAt from word time found × IsLast from.net found w
