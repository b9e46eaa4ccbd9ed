-- A tripped world stays down up to the next Restart.
use Rattle.std.proofs.Common.{◌≡◌, ℕ, true, cond, List, [], ◌∷◌, ap}
use Rattle.ps_model.specs.declared.channel.Verdict.TheVariants.{Down}
use Rattle.ps_world.specs.Worlds.{Machines, World_state, Event, Begin, Turn, Spoil, Compare, Restart}
use Rattle.ps_machine.specs.Outcomes.{outcome}
use Rattle.ps_world.specs.Verdicts.{judged, verdict, is_trip, given_with}
use Rattle.ps_world.specs.Steps.{world_step, after, Lawful}
use Rattle.ps_world.specs.Lists.{HasNoRestart}
use Rattle.ps_world.specs.Laws.{StaysDown}

down_verdict : (m : Machines) (x : World_state) → x.tripped ≡ true → verdict m x ≡ Down
down_verdict m x tripped = ap (λ t. cond t Down (judged (outcome m.a x.a.cells) (outcome m.b x.b.cells))) tripped

stays_tripped : (m : Machines) (inputs : ℕ) (es : List Event) (x : World_state) → x.tripped ≡ true → Lawful m inputs es x → HasNoRestart es → (after m es x).tripped ≡ true
stays_tripped m inputs [] x tripped law none = tripped
stays_tripped m inputs (Begin now ins ∷ es) x tripped law none = let up = law.0.1 in absurd (cc)
stays_tripped m inputs (Turn o ∷ es) x tripped law none = stays_tripped m inputs es (world_step m (Turn o) x) tripped law.1 none
stays_tripped m inputs (Spoil o region at bytes ∷ es) x tripped law none = stays_tripped m inputs es (world_step m (Spoil o region at bytes) x) tripped law.1 none
stays_tripped m inputs (Compare ∷ es) x tripped law none = stays_tripped m inputs es (world_step m Compare x) (ap is_trip (down_verdict m x tripped)) law.1 none
stays_tripped m inputs (Restart ∷ es) x tripped law none = absurd none

pub stays_down : (m : Machines) → StaysDown m
stays_down m es x inputs outputs instances tripped law none =
    let down = down_verdict m (after m es x) (stays_tripped m inputs es x tripped law none) in
    (down, ap (λ v. given_with v outputs instances (outcome m.a (after m es x).a.cells)) down)
