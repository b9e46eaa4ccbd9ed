-- The turns of a scan, one after another.
use Rattle.std.proofs.Common.{◌≡◌, ℕ, suc, ◌+◌, ◌≤◌, true, false, cond, List, [], ◌∷◌, ◌++◌, map, Option, Some, refl, sym, ap, ◌∙◌, arith}
use Rattle.std.specs.Prelude.{◌&&◌, ◌==◌}
use Rattle.std.specs.List.{filter}
use Rattle.ps_model.specs.declared.channel.Channel.{Channel}
use Rattle.ps_model.specs.declared.channel.Channel.TheVariants.{A, B}
use Rattle.ps_model.specs.declared.channel.Fault.{Fault}
use Rattle.ps_model.specs.declared.channel.Region.{Region}
use Rattle.ps_machine.specs.Channels.{ended}
use Rattle.ps_world.specs.Worlds.{Machines, World_state, Event, Turn, Spoil, machine, channel}
use Rattle.ps_world.specs.Steps.{world_step, after, both_ended}
use Rattle.ps_world.specs.Orders.{spoil_of, spoils_before, next_turn, turn_events}
use Rattle.ps_machine.proofs.Left.{spent, same_turns, turns_are_left}

pub after_append : (m : Machines) (es fs : List Event) (x : World_state) → after m (es ++ fs) x ≡ after m fs (after m es x)
after_append m [] fs x = refl
after_append m (e ∷ es) fs x = after_append m es fs (world_step m e x)

-- what Spoils leave as it was
pub record IsAlike (x y : World_state) : Type 0 where
  pub turns_a : y.a.turns ≡ x.a.turns
  pub turns_b : y.b.turns ≡ x.b.turns
  pub last : y.last ≡ x.last
  pub begun : y.begun ≡ x.begun
  pub tripped : y.tripped ≡ x.tripped

spoil_alike : (m : Machines) (ch : Channel) (region : Region) (at : ℕ) (bytes : List ℕ) (x : World_state) → IsAlike x (world_step m (Spoil ch region at bytes) x)
spoil_alike m A region at bytes x = record { turns_a = same_turns region at bytes x.a; turns_b = refl; last = refl; begun = refl; tripped = refl }
spoil_alike m B region at bytes x = record { turns_a = refl; turns_b = same_turns region at bytes x.b; last = refl; begun = refl; tripped = refl }

still_alike : (x y z : World_state) → IsAlike x y → IsAlike y z → IsAlike x z
still_alike x y z h k = record {
  turns_a = k.turns_a ∙ h.turns_a;
  turns_b = k.turns_b ∙ h.turns_b;
  last = k.last ∙ h.last;
  begun = k.begun ∙ h.begun;
  tripped = k.tripped ∙ h.tripped;
}

pub spoils_alike : (m : Machines) (fs : List Fault) (x : World_state) → IsAlike x (after m (map spoil_of fs) x)
spoils_alike m [] x = record { turns_a = refl; turns_b = refl; last = refl; begun = refl; tripped = refl }
spoils_alike m (f ∷ fs) x =
    let y = world_step m (spoil_of f) x in
    still_alike x y (after m (map spoil_of fs) y) (spoil_alike m f.channel f.region f.at f.bytes x) (spoils_alike m fs y)

pub struck_alike : (m : Machines) (turn : ℕ) (faults : List Fault) (x : World_state) → IsAlike x (after m (spoils_before turn faults) x)
struck_alike m turn faults x = spoils_alike m (filter (λ f. f.turn == turn) faults) x

-- where both channels have ended the turns are over
pub turns_end : (m : Machines) (faults : List Fault) (left done : ℕ) (last : Option Channel) (x : World_state) → both_ended m (after m (spoils_before (done + 1) faults) x) ≡ true →
    after m (turn_events m faults (suc left) done last x) x ≡ after m (spoils_before (done + 1) faults) x
turns_end m faults left done last x over =
    let spoils = spoils_before (done + 1) faults in
    let y = after m spoils x in
    let go = Turn (next_turn m last y) ∷ turn_events m faults left (done + 1) (Some (next_turn m last y)) (world_step m (Turn (next_turn m last y)) y) in
    after_append m spoils (cond (both_ended m y) [] go) x ∙ ap (λ e. after m (cond e [] go) y) over

-- and else the channel whose turn it is goes on
pub turns_go : (m : Machines) (faults : List Fault) (left done : ℕ) (last : Option Channel) (ch : Channel) (x : World_state) → both_ended m (after m (spoils_before (done + 1) faults) x) ≡ false →
    ch ≡ next_turn m last (after m (spoils_before (done + 1) faults) x) →
    after m (turn_events m faults (suc left) done last x) x
    ≡ after m (turn_events m faults left (done + 1) (Some ch) (world_step m (Turn ch) (after m (spoils_before (done + 1) faults) x))) (world_step m (Turn ch) (after m (spoils_before (done + 1) faults) x))
turns_go m faults left done last ch x more next =
    let spoils = spoils_before (done + 1) faults in
    let y = after m spoils x in
    let go : Channel → List Event = λ c. Turn c ∷ turn_events m faults left (done + 1) (Some c) (world_step m (Turn c) y) in
    after_append m spoils (cond (both_ended m y) [] (go (next_turn m last y))) x ∙ ap (λ e. after m (cond e [] (go (next_turn m last y))) y) more ∙ ap (λ c. after m (go c) y) (sym next)

-- where all turns of both budgets are made both channels have ended
pub all_spent : (m : Machines) (x : World_state) → x.a.turns ≤ m.a.budget → x.b.turns ≤ m.b.budget → m.a.budget + m.b.budget ≤ x.a.turns + x.b.turns → both_ended m x ≡ true
all_spent m x few_a few_b all = ap (λ e. e && ended m.b x.b) (spent m.a x.a (omega arith)) ∙ spent m.b x.b (omega arith)

-- a turn of a channel that has not ended is one more, within the budgets
pub record IsOneMore (m : Machines) (x y : World_state) : Type 0 where
  pub more : y.a.turns + y.b.turns ≡ x.a.turns + x.b.turns + 1
  pub few_a : y.a.turns ≤ m.a.budget
  pub few_b : y.b.turns ≤ m.b.budget

pub one_more_turn : (m : Machines) (ch : Channel) (x : World_state) → x.a.turns ≤ m.a.budget → x.b.turns ≤ m.b.budget → ended (machine ch m) (channel ch x) ≡ false → IsOneMore m x (world_step m (Turn ch) x)
one_more_turn m A x few_a few_b goes = let low = turns_are_left m.a x.a goes in record { more = omega arith; few_a = omega arith; few_b = few_b }
one_more_turn m B x few_a few_b goes = let low = turns_are_left m.b x.b goes in record { more = omega arith; few_a = few_a; few_b = omega arith }
