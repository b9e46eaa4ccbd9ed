-- Without a Spoil the turns of a scan lead to one world, whether channels take turns or one finishes before the other.
use Rattle.std.proofs.Common.{◌≡◌, ℕ, zero, suc, ◌+◌, ◌≤◌, true, false, cond, List, [], ◌∷◌, Option, Some, None, refl, ap, ◌∙◌, arith}
use Rattle.std.specs.Prelude.{◌&&◌}
use Rattle.ps_model.specs.declared.channel.Channel.{Channel}
use Rattle.ps_model.specs.declared.channel.Channel.TheVariants.{A, B}
use Rattle.ps_machine.specs.Machines.{turned}
use Rattle.ps_machine.specs.Channels.{after_turn, ended}
use Rattle.ps_world.specs.Worlds.{Machines, World_state, Event, Turn}
use Rattle.ps_world.specs.Steps.{world_step, after, both_ended}
use Rattle.ps_world.specs.Orders.{in_turn, next_turn, turn_events}
use Rattle.ps_machine.proofs.Left.{HasLeft, one_less, goes}

-- the world with both channels after so many turns of each
abbrev pub finished : Machines → (ka kb : ℕ) → World_state → World_state
finished m ka kb x = record { a = turned (after_turn m.a) ka x.a; b = turned (after_turn m.b) kb x.b; last = x.last; begun = x.begun; tripped = x.tripped }

-- whose turn is next, by which channels have ended
next_of_both : (m : Machines) (last : Option Channel) (x : World_state) → ended m.a x.a ≡ false → ended m.b x.b ≡ false → next_turn m last x ≡ in_turn last
next_of_both m None x a b = ap (λ e. cond e B A) a
next_of_both m (Some A) x a b = ap (λ e. cond e A B) b
next_of_both m (Some B) x a b = ap (λ e. cond e B A) a

next_of_a : (m : Machines) (last : Option Channel) (x : World_state) → ended m.a x.a ≡ false → ended m.b x.b ≡ true → next_turn m last x ≡ A
next_of_a m None x a b = ap (λ e. cond e B A) a
next_of_a m (Some A) x a b = ap (λ e. cond e A B) b
next_of_a m (Some B) x a b = ap (λ e. cond e B A) a

next_of_b : (m : Machines) (last : Option Channel) (x : World_state) → ended m.a x.a ≡ true → ended m.b x.b ≡ false → next_turn m last x ≡ B
next_of_b m None x a b = ap (λ e. cond e B A) a
next_of_b m (Some A) x a b = ap (λ e. cond e A B) b
next_of_b m (Some B) x a b = ap (λ e. cond e B A) a

-- the turns that are left, where it is known whether both channels have ended and whose turn is next
turns_go_on : (m : Machines) (left done : ℕ) (last : Option Channel) (x : World_state) (ch : Channel) → both_ended m x ≡ false → next_turn m last x ≡ ch →
    after m (turn_events m [] (suc left) done last x) x ≡ after m (turn_events m [] left (done + 1) (Some ch) (world_step m (Turn ch) x)) (world_step m (Turn ch) x)
turns_go_on m left done last x ch more next =
    let go : Channel → List Event = λ c. Turn c ∷ turn_events m [] left (done + 1) (Some c) (world_step m (Turn c) x) in
    ap (λ e. after m (cond e [] (go (next_turn m last x))) x) more ∙ ap (λ c. after m (go c) x) next

pub turns_finish : (m : Machines) (left done : ℕ) (last : Option Channel) (x : World_state) (ka kb : ℕ) → HasLeft m.a x.a ka → HasLeft m.b x.b kb → ka + kb ≤ left →
    after m (turn_events m [] left done last x) x ≡ finished m ka kb x
turns_finish m zero done last x zero zero ha hb few = refl
turns_finish m zero done last x zero (suc kb) ha hb few = absurd (omega arith)
turns_finish m zero done last x (suc ka) kb ha hb few = absurd (omega arith)
turns_finish m (suc left) done last x zero zero ha hb few =
    let ends : both_ended m x ≡ true = ap (λ e. e && ended m.b x.b) ha.over ∙ hb.over in
    ap (λ e. after m (cond e [] (Turn (next_turn m last x) ∷ turn_events m [] left (done + 1) (Some (next_turn m last x)) (world_step m (Turn (next_turn m last x)) x))) x) ends
turns_finish m (suc left) done last x (suc ka) zero ha hb few =
    let a = goes m.a x.a ka ha in
    turns_go_on m left done last x A (ap (λ e. e && ended m.b x.b) a) (next_of_a m last x a hb.over)
    ∙ turns_finish m left (done + 1) (Some A) (world_step m (Turn A) x) ka zero (one_less m.a x.a ka ha) hb (omega arith)
turns_finish m (suc left) done last x zero (suc kb) ha hb few =
    let b = goes m.b x.b kb hb in
    turns_go_on m left done last x B (ap (λ e. e && ended m.b x.b) ha.over ∙ b) (next_of_b m last x ha.over b)
    ∙ turns_finish m left (done + 1) (Some B) (world_step m (Turn B) x) zero kb ha (one_less m.b x.b kb hb) (omega arith)
turns_finish m (suc left) done last x (suc ka) (suc kb) ha hb few =
    let a = goes m.a x.a ka ha in
    let b = goes m.b x.b kb hb in
    by_channel (λ few'. turns_finish m left (done + 1) (Some A) (world_step m (Turn A) x) ka (suc kb) (one_less m.a x.a ka ha) hb few')
    (λ few'. turns_finish m left (done + 1) (Some B) (world_step m (Turn B) x) (suc ka) kb ha (one_less m.b x.b kb hb) few')
    (ap (λ e. e && ended m.b x.b) a) (in_turn last) (next_of_both m last x a b)
  where
    by_channel : (ka + suc kb ≤ left → after m (turn_events m [] left (done + 1) (Some A) (world_step m (Turn A) x)) (world_step m (Turn A) x) ≡ finished m ka (suc kb) (world_step m (Turn A) x)) →
        (suc ka + kb ≤ left → after m (turn_events m [] left (done + 1) (Some B) (world_step m (Turn B) x)) (world_step m (Turn B) x) ≡ finished m (suc ka) kb (world_step m (Turn B) x)) →
        both_ended m x ≡ false → (ch : Channel) → next_turn m last x ≡ ch → after m (turn_events m [] (suc left) done last x) x ≡ finished m (suc ka) (suc kb) x
    by_channel go_a go_b more A next = turns_go_on m left done last x A more next ∙ go_a (omega arith)
    by_channel go_a go_b more B next = turns_go_on m left done last x B more next ∙ go_b (omega arith)
