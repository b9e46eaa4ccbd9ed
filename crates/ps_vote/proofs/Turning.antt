-- The turns of a scan, one after another.
use Rattle.std.proofs.Common.{◌≡◌, ℕ, suc, ◌+◌, Bool, true, false, cond, List, Option, Some, None, sym, ap, ◌∙◌}
use Rattle.ps_vote.specs.declared.faults.VoteFault.{VoteFault}
use Rattle.ps_vote.specs.declared.seat.Seat.{Seat}
use Rattle.ps_vote.specs.Worlds.{Machines, World_state, Turn}
use Rattle.ps_vote.specs.Steps.{world_step, after, all_ended}
use Rattle.ps_vote.specs.Orders.{of_turn, Path, no_more, first, spoils, next_turn, turns}
use Rattle.ps_vote.proofs.Paths.{goes_behind, refused_behind, stops, refused_there}

module _ (heals : Bool) (m : Machines) (faults : List VoteFault) (left done : ℕ) (last : Option Seat) (x : World_state) where
  -- the Spoils before the next turn
  abbrev pub next_spoils : Path
  next_spoils = spoils heals m (of_turn (done + 1) faults) x

  -- the world after them
  abbrev pub struck : World_state
  struck = after m next_spoils.events x

  -- the turn of this seat in a world, and those after it
  abbrev pub turn_of : World_state → Seat → Path
  turn_of y o = first (Turn o) (turns heals m faults left (done + 1) (Some o) (world_step m (Turn o) y))

  abbrev later : World_state → Path
  later y = cond (all_ended m y) no_more (turn_of y (next_turn m last y))

  -- the turns that are left
  abbrev pub turns_left : Path
  turns_left = turns heals m faults (suc left) done last x

  -- where a fault is not done they end at it
  pub turns_stop : (f : VoteFault) → next_spoils.refused ≡ Some f → (after m turns_left.events x ≡ struck) × (turns_left.refused ≡ Some f)
  turns_stop f some = (stops m x next_spoils later f some, refused_there m x next_spoils later f some)

  -- where all seats have ended they are over
  pub turns_end : next_spoils.refused ≡ None → all_ended m struck ≡ true → (after m turns_left.events x ≡ struck) × (turns_left.refused ≡ None)
  turns_end none over =
      let go = turn_of struck (next_turn m last struck) in (
        goes_behind m x next_spoils later none ∙ ap (λ b. after m (cond b no_more go).events struck) over,
        refused_behind m x next_spoils later none ∙ ap (λ b. (cond b no_more go).refused) over,
      )

  -- and else the seat whose turn it is goes on
  pub turns_go : (o : Seat) → next_spoils.refused ≡ None → all_ended m struck ≡ false → o ≡ next_turn m last struck →
      (after m turns_left.events x ≡ after m (turns heals m faults left (done + 1) (Some o) (world_step m (Turn o) struck)).events (world_step m (Turn o) struck))
      × (turns_left.refused ≡ (turns heals m faults left (done + 1) (Some o) (world_step m (Turn o) struck)).refused)
  turns_go o none more next =
      let go = turn_of struck in
      let q = next_turn m last struck in (
        goes_behind m x next_spoils later none ∙ ap (λ b. after m (cond b no_more (go q)).events struck) more ∙ ap (λ s. after m (go s).events struck) (sym next),
        refused_behind m x next_spoils later none ∙ ap (λ b. (cond b no_more (go q)).refused) more ∙ ap (λ s. (go s).refused) (sym next),
      )
