-- Without a Spoil the turns of a scan lead to one world, whether seats take turns or one finishes before the other.
use Rattle.std.proofs.Common.{◌≡◌, ℕ, zero, suc, ◌+◌, ◌≤◌, Bool, true, false, [], Option, Some, None, cond, inl, inr, refl, sym, ap, ◌∙◌, subst, arith}
use Rattle.std.proofs.lemmas.Bool.{cases_Bool, false≢true}
use Rattle.ps_machine.specs.Machines.{turned}
use Rattle.ps_machine.specs.Channels.{after_turn, ended}
use Rattle.ps_machine.proofs.Left.{HasLeft, one_less}
use Rattle.ps_vote.specs.declared.seat.Seat.{Seat}
use Rattle.ps_vote.specs.declared.seat.Seat.TheVariants.{A, B, C}
use Rattle.ps_vote.specs.Worlds.{Machines, World_state, Turn, machine, channel}
use Rattle.ps_vote.specs.Steps.{world_step, after, all_ended}
use Rattle.ps_vote.specs.Orders.{Path, no_more, first, next_turn, turns}
use Rattle.ps_vote.proofs.Reaching.{next_goes}
use Rattle.ps_vote.proofs.Standing.{each_ended}

-- the world with all seats after so many turns of each
abbrev pub finished : Machines → (ka kb kc : ℕ) → World_state → World_state
finished m ka kb kc x = record {
  a = turned (after_turn m.a) ka x.a;
  b = turned (after_turn m.b) kb x.b;
  c = turned (after_turn m.c) kc x.c;
  dirty = x.dirty;
  last = x.last;
  begun = x.begun;
  outvoted = x.outvoted;
}

-- this path leads to this world, and ends at no fault
pub record LeadsTo (m : Machines) (p : Path) (x y : World_state) : Type 0 where
  pub leads : after m p.events x ≡ y
  pub goes : p.refused ≡ None

module _ (heals : Bool) (m : Machines) where
  -- what the turns after one of this seat lead to
  abbrev Behind : (left done : ℕ) → Seat → (x y : World_state) → Type 0
  Behind left done o x y = LeadsTo m (turns heals m [] left (done + 1) (Some o) (world_step m (Turn o) x)) (world_step m (Turn o) x) y

  -- all have ended
  ends : (left done : ℕ) (last : Option Seat) (x : World_state) → all_ended m x ≡ true → LeadsTo m (turns heals m [] (suc left) done last x) x x
  ends left done last x over =
      let o = next_turn m last x in
      let go = first (Turn o) (turns heals m [] left (done + 1) (Some o) (world_step m (Turn o) x)) in
      record {
        leads = ap (λ b. after m (cond b no_more go).events x) over;
        goes = ap (λ b. (cond b no_more go).refused) over;
      }

  -- the seat whose turn is next has it
  goes_on : (left done : ℕ) (last : Option Seat) (o : Seat) (x y : World_state) → all_ended m x ≡ false → next_turn m last x ≡ o → Behind left done o x y →
      LeadsTo m (turns heals m [] (suc left) done last x) x y
  goes_on left done last o x y more next h =
      let go : Seat → Path = λ s. first (Turn s) (turns heals m [] left (done + 1) (Some s) (world_step m (Turn s) x)) in
      let q = next_turn m last x in
      record {
        leads = ap (λ b. after m (cond b no_more (go q)).events x) more ∙ ap (λ s. after m (go s).events x) next ∙ h.leads;
        goes = ap (λ b. (cond b no_more (go q)).refused) more ∙ ap (λ s. (go s).refused) next ∙ h.goes;
      }

  pub turns_finish : (left done : ℕ) (last : Option Seat) (x : World_state) (ka kb kc : ℕ) → HasLeft m.a x.a ka → HasLeft m.b x.b kb → HasLeft m.c x.c kc → ka + kb + kc ≤ left →
      LeadsTo m (turns heals m [] left done last x) x (finished m ka kb kc x)
  turns_finish zero done last x zero zero zero ha hb hc few = record { leads = refl; goes = refl }
  turns_finish zero done last x (suc ka) kb kc ha hb hc few = absurd (omega arith)
  turns_finish zero done last x zero (suc kb) kc ha hb hc few = absurd (omega arith)
  turns_finish zero done last x zero zero (suc kc) ha hb hc few = absurd (omega arith)
  turns_finish (suc left) done last x ka kb kc ha hb hc few =
      elim (cases_Bool (all_ended m x)) [
        | inl over ↦ all_over over
        | inr more ↦
            by_seat (λ j h low. turns_finish left (done + 1) (Some A) (world_step m (Turn A) x) j kb kc h hb hc low)
            (λ j h low. turns_finish left (done + 1) (Some B) (world_step m (Turn B) x) ka j kc ha h hc low)
            (λ j h low. turns_finish left (done + 1) (Some C) (world_step m (Turn C) x) ka kb j ha hb h low) (next_turn m last x) refl (next_goes m last x more) more
      ]
    where
      none_left : (s : Seat) (k : ℕ) → HasLeft (machine s m) (channel s x) k → ended (machine s m) (channel s x) ≡ true → k ≡ 0
      none_left s zero h over = refl
      none_left s (suc k) h over = absurd (false≢true (sym (h.each 0 (omega arith)) ∙ over))

      all_over : all_ended m x ≡ true → LeadsTo m (turns heals m [] (suc left) done last x) x (finished m ka kb kc x)
      all_over over =
          let h = ends left done last x over in
          record {
            leads = h.leads ∙ (λ i. finished m (sym (none_left A ka ha (each_ended m A x over)) i) (sym (none_left B kb hb (each_ended m B x over)) i) (sym (none_left C kc hc (each_ended m C x over)) i) x);
            goes = h.goes;
          }

      -- a seat that is to go on has a turn left
      one_left : (s : Seat) (k : ℕ) → HasLeft (machine s m) (channel s x) k → ended (machine s m) (channel s x) ≡ false → (j : ℕ) × (k ≡ suc j)
      one_left s zero h goes = absurd (false≢true (sym goes ∙ h.over))
      one_left s (suc j) h goes = (j, refl)

      by_seat : ((j : ℕ) → HasLeft m.a (world_step m (Turn A) x).a j → j + kb + kc ≤ left → Behind left done A x (finished m j kb kc (world_step m (Turn A) x))) →
          ((j : ℕ) → HasLeft m.b (world_step m (Turn B) x).b j → ka + j + kc ≤ left → Behind left done B x (finished m ka j kc (world_step m (Turn B) x))) →
          ((j : ℕ) → HasLeft m.c (world_step m (Turn C) x).c j → ka + kb + j ≤ left → Behind left done C x (finished m ka kb j (world_step m (Turn C) x))) →
          (o : Seat) → next_turn m last x ≡ o → ended (machine (next_turn m last x) m) (channel (next_turn m last x) x) ≡ false → all_ended m x ≡ false →
          LeadsTo m (turns heals m [] (suc left) done last x) x (finished m ka kb kc x)
      by_seat go_a go_b go_c A next goes more =
          let k = one_left A ka ha (sym (ap (λ s. ended (machine s m) (channel s x)) next) ∙ goes) in
          let few' : suc k.0 + kb + kc ≤ suc left = subst (λ n. n + kb + kc ≤ suc left) k.1 few in
          subst (λ n. LeadsTo m (turns heals m [] (suc left) done last x) x (finished m n kb kc x)) (sym k.1)
          (goes_on left done last A x (finished m (suc k.0) kb kc x) more next (go_a k.0 (one_less m.a x.a k.0 (subst (HasLeft m.a x.a) k.1 ha)) (omega arith)))
      by_seat go_a go_b go_c B next goes more =
          let k = one_left B kb hb (sym (ap (λ s. ended (machine s m) (channel s x)) next) ∙ goes) in
          let few' : ka + suc k.0 + kc ≤ suc left = subst (λ n. ka + n + kc ≤ suc left) k.1 few in
          subst (λ n. LeadsTo m (turns heals m [] (suc left) done last x) x (finished m ka n kc x)) (sym k.1)
          (goes_on left done last B x (finished m ka (suc k.0) kc x) more next (go_b k.0 (one_less m.b x.b k.0 (subst (HasLeft m.b x.b) k.1 hb)) (omega arith)))
      by_seat go_a go_b go_c C next goes more =
          let k = one_left C kc hc (sym (ap (λ s. ended (machine s m) (channel s x)) next) ∙ goes) in
          let few' : ka + kb + suc k.0 ≤ suc left = subst (λ n. ka + kb + n ≤ suc left) k.1 few in
          subst (λ n. LeadsTo m (turns heals m [] (suc left) done last x) x (finished m ka kb n x)) (sym k.1)
          (goes_on left done last C x (finished m ka kb (suc k.0) x) more next (go_c k.0 (one_less m.c x.c k.0 (subst (HasLeft m.c x.c) k.1 hc)) (omega arith)))
