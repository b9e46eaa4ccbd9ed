-- In each scan of a run every safe signal that is TRUE has its demand.
use Rattle.std.proofs.Common.{ℕ, Bool, List, [], ◌∷◌, length, take, ap, sym, ◌∙◌, ⊎_elim, arith}
use Rattle.std.specs.Prelude.{nat_lt}
use Rattle.std.specs.List.{list_any}
use Rattle.std.proofs.lemmas.List.{take_all}
use Rattle.std.proofs.lemmas.Bool.{false≢true, cases_Bool, cond-true, or_parts, ltb-false}
use Rattle.ps_model.specs.BlockLaws.{EachDemands}
use Rattle.ps_model.specs.Network.{Network, input_count, drives, is_new}
use Rattle.ps_model.specs.Scanning.{State, Solves, signal_in}
use Rattle.ps_model.specs.Meaning.{Item, scan, restart, Past, nothing, last, old_state, Runs}
use Rattle.ps_model.specs.Sound.{IsSound}
use Rattle.ps_model.specs.Typing.{Accepted}
use Rattle.ps_demand.specs.Laws.{HasDemands, EachHasDemands}
use Rattle.ps_demand.proofs.DemandHolds.{read_holds}

module _ (net : Network) (sound : IsSound net) (accepted : Accepted net) (demands : EachDemands) where
  pub scan_holds : (old : State) (ins : List Bool) (dt : ℕ) (new : State) → Solves net old ins dt new → HasDemands net old ins new
  scan_holds old ins dt new solves s is on =
      let all = length net.steps in
      let driven = list_any (drives net s) (take all net.steps) in
      ⊎_elim
      (λ read. read_holds net sound accepted demands old ins dt new solves all (omega arith) s is
      (cond-true (is_new net all s) (signal_in new s) (signal_in old s) read ∙ on))
      (λ old_one.
      let parts = or_parts (nat_lt s (input_count net)) driven old_one in
      let whole = take_all all net.steps (omega arith) in
      absurd (false≢true (sym (solves.undriven s (ltb-false s (input_count net) parts.0) (ap (list_any (drives net s)) (sym whole) ∙ parts.1)) ∙ on)))
      (cases_Bool (is_new net all s))

  pub runs_hold : (past : Past) (items : List Item) (ws : List State) → Runs net past items ws → EachHasDemands net past items ws
  runs_hold past [] ws h = tt
  runs_hold past (restart ∷ items) ws h = runs_hold nothing items ws h
  runs_hold past (scan now ins ∷ items) [] h = tt
  runs_hold past (scan now ins ∷ items) (w ∷ ws) h =
      (scan_holds (old_state net past) ins _ w h.0, runs_hold (last now w) items ws h.1)
