-- The events of a scan, in the order of a run, are lawful, spare what the faults spare, and end with both channels ended.
use Rattle.std.proofs.Common.{inl, inr, ◌≡◌, ℕ, zero, suc, ◌+◌, ◌≤◌, Bool, true, false, cond, List, [], ◌∷◌, ◌++◌, map, Option, Some, refl, sym, ap, ◌∙◌, subst, arith}
use Rattle.std.specs.Prelude.{◌&&◌, ◌==◌}
use Rattle.std.specs.List.{filter}
use Rattle.std.proofs.lemmas.Bool.{cases_Bool}
use Rattle.ps_model.specs.declared.channel.Channel.{Channel}
use Rattle.ps_model.specs.declared.channel.Channel.TheVariants.{A, B}
use Rattle.ps_model.specs.declared.channel.Fault.{Fault}
use Rattle.ps_machine.specs.Channels.{ended}
use Rattle.ps_world.specs.Worlds.{Machines, World_state, Event, Turn, machine, channel}
use Rattle.ps_world.specs.Steps.{world_step, after, both_ended, Lawful}
use Rattle.ps_world.specs.Lists.{IsSpared, items_of}
use Rattle.ps_world.specs.Orders.{of_scan, spoil_of, spoils_before, other, in_turn, next_turn, turn_events}
use Rattle.ps_world.specs.Answers.{SpareChannel}
use Rattle.ps_world.proofs.Turning.{after_append, struck_alike, all_spent, one_more_turn}

-- ---- Spoils.

spoils_lawful : (m : Machines) (n : ℕ) (fs : List Fault) (es : List Event) (x : World_state) → Lawful m n es (after m (map spoil_of fs) x) → Lawful m n (map spoil_of fs ++ es) x
spoils_lawful m n [] es x law = law
spoils_lawful m n (f ∷ fs) es x law = (tt, spoils_lawful m n fs es (world_step m (spoil_of f) x) law)

pub struck_lawful : (m : Machines) (n turn : ℕ) (faults : List Fault) (es : List Event) (x : World_state) → Lawful m n es (after m (spoils_before turn faults) x) → Lawful m n (spoils_before turn faults ++ es) x
struck_lawful m n turn faults es x law = spoils_lawful m n (filter (λ f. f.turn == turn) faults) es x law

-- of faults that spare a channel, those that pass a test spare it
passed_spare : (ch : Channel) (p : Fault → Bool) (fs : List Fault) → SpareChannel ch fs → SpareChannel ch (filter p fs)
passed_spare ch p [] h = tt
passed_spare ch p (f ∷ fs) h =
    let rest = passed_spare ch p fs h.1 in
    elim (cases_Bool (p f)) [
      | inl passes ↦ subst (λ b. SpareChannel ch (cond b (f ∷ filter p fs) (filter p fs))) (sym passes) (h.0, rest)
      | inr fails ↦ subst (λ b. SpareChannel ch (cond b (f ∷ filter p fs) (filter p fs))) (sym fails) rest
    ]

pub of_scan_spare : (ch : Channel) (number : ℕ) (faults : List Fault) → SpareChannel ch faults → SpareChannel ch (of_scan number faults)
of_scan_spare ch number faults h = passed_spare ch (λ f. f.scan == number) faults h

spoils_spared : (ch : Channel) (fs : List Fault) (es : List Event) → SpareChannel ch fs → IsSpared ch es → IsSpared ch (map spoil_of fs ++ es)
spoils_spared ch [] es h spared = spared
spoils_spared ch (f ∷ fs) es h spared = (h.0, spoils_spared ch fs es h.1 spared)

pub struck_spared : (ch : Channel) (turn : ℕ) (faults : List Fault) (es : List Event) → SpareChannel ch faults → IsSpared ch es → IsSpared ch (spoils_before turn faults ++ es)
struck_spared ch turn faults es h spared = spoils_spared ch (filter (λ f. f.turn == turn) faults) es (passed_spare ch (λ f. f.turn == turn) faults h) spared

spoils_items : (fs : List Fault) (es : List Event) → items_of (map spoil_of fs ++ es) ≡ items_of es
spoils_items [] es = refl
spoils_items (f ∷ fs) es = spoils_items fs es

pub struck_items : (turn : ℕ) (faults : List Fault) (es : List Event) → items_of (spoils_before turn faults ++ es) ≡ items_of es
struck_items turn faults es = spoils_items (filter (λ f. f.turn == turn) faults) es

-- ---- The turns of a scan.

without_end : (es : List Event) → es ++ [] ≡ es
without_end [] = refl
without_end (e ∷ es) = ap (λ l. e ∷ l) (without_end es)

-- where both channels have not ended, the one whose turn is next has not
next_goes : (m : Machines) (last : Option Channel) (x : World_state) → both_ended m x ≡ false → ended (machine (next_turn m last x) m) (channel (next_turn m last x) x) ≡ false
next_goes m last x more = by_wanted (in_turn last)
  where
    one_goes : (a b : Bool) → (a && b) ≡ false → a ≡ true → b ≡ false
    one_goes true false h e = refl
    one_goes true true h e = absurd (cc)
    one_goes false b h e = absurd (cc)

    first_goes : (a b : Bool) → (a && b) ≡ false → b ≡ true → a ≡ false
    first_goes false b h e = refl
    first_goes true true h e = absurd (cc)
    first_goes true false h e = absurd (cc)

    by_test : (ch : Channel) (b : Bool) → ended (machine ch m) (channel ch x) ≡ b → (b ≡ true → ended (machine (other ch) m) (channel (other ch) x) ≡ false) →
        ended (machine (cond b (other ch) ch) m) (channel (cond b (other ch) ch) x) ≡ false
    by_test ch true e goes = goes refl
    by_test ch false e goes = e

    by_wanted : (ch : Channel) → ended (machine (cond (ended (machine ch m) (channel ch x)) (other ch) ch) m) (channel (cond (ended (machine ch m) (channel ch x)) (other ch) ch) x) ≡ false
    by_wanted A = by_test A (ended m.a x.a) refl (one_goes (ended m.a x.a) (ended m.b x.b) more)
    by_wanted B = by_test B (ended m.b x.b) refl (first_goes (ended m.a x.a) (ended m.b x.b) more)

-- what events after the Begin of a scan come to: they are lawful and no scan or restart, spare what the faults spare, and end both channels
pub record ComesToEnd (m : Machines) (n : ℕ) (faults : List Fault) (es : List Event) (x : World_state) : Type 0 where
  pub lawful : Lawful m n es x
  pub no_items : items_of es ≡ []
  pub spared : (ch : Channel) → SpareChannel ch faults → IsSpared ch es
  pub last : (after m es x).last ≡ x.last
  pub begun : (after m es x).begun ≡ true
  pub tripped : (after m es x).tripped ≡ x.tripped
  pub over : both_ended m (after m es x) ≡ true

ends_here : (m : Machines) (n : ℕ) (faults : List Fault) (x : World_state) → x.begun ≡ true → both_ended m x ≡ true → ComesToEnd m n faults [] x
ends_here m n faults x begun over = record { lawful = tt; no_items = refl; spared = λ ch h. tt; last = refl; begun = begun; tripped = refl; over = over }

turn_comes : (m : Machines) (n : ℕ) (faults : List Fault) (ch : Channel) (es : List Event) (x : World_state) → x.begun ≡ true → ended (machine ch m) (channel ch x) ≡ false →
    ComesToEnd m n faults es (world_step m (Turn ch) x) → ComesToEnd m n faults (Turn ch ∷ es) x
turn_comes m n faults ch es x begun goes h = record {
  lawful = ((begun, goes), h.lawful);
  no_items = h.no_items;
  spared = h.spared;
  last = h.last;
  begun = h.begun;
  tripped = h.tripped;
  over = h.over;
}

struck_comes : (m : Machines) (n turn : ℕ) (faults : List Fault) (es : List Event) (x : World_state) → ComesToEnd m n faults es (after m (spoils_before turn faults) x) →
    ComesToEnd m n faults (spoils_before turn faults ++ es) x
struck_comes m n turn faults es x h =
    let spoils = spoils_before turn faults in
    let alike = struck_alike m turn faults x in
    let there = after_append m spoils es x in
    record {
      lawful = struck_lawful m n turn faults es x h.lawful;
      no_items = struck_items turn faults es ∙ h.no_items;
      spared = λ ch spare. struck_spared ch turn faults es spare (h.spared ch spare);
      last = ap (λ (y : World_state). y.last) there ∙ h.last ∙ alike.last;
      begun = ap (λ (y : World_state). y.begun) there ∙ h.begun;
      tripped = ap (λ (y : World_state). y.tripped) there ∙ h.tripped ∙ alike.tripped;
      over = ap (both_ended m) there ∙ h.over;
    }

-- the turns of a scan come to its end, where as many are left as the budgets have
pub turns_come : (m : Machines) (n : ℕ) (faults : List Fault) (left done : ℕ) (last : Option Channel) (x : World_state) → x.begun ≡ true →
    x.a.turns ≤ m.a.budget → x.b.turns ≤ m.b.budget → m.a.budget + m.b.budget ≤ left + (x.a.turns + x.b.turns) → ComesToEnd m n faults (turn_events m faults left done last x) x
turns_come m n faults zero done last x begun few_a few_b all =
    let y = after m (spoils_before (done + 1) faults) x in
    let alike = struck_alike m (done + 1) faults x in
    let turns_a = alike.turns_a in
    let turns_b = alike.turns_b in
    subst (λ es. ComesToEnd m n faults es x) (without_end (spoils_before (done + 1) faults))
    (struck_comes m n (done + 1) faults [] x (ends_here m n faults y (alike.begun ∙ begun) (all_spent m y (omega arith) (omega arith) (omega arith))))
turns_come m n faults (suc left) done last x begun few_a few_b all =
    let y = after m (spoils_before (done + 1) faults) x in
    let alike = struck_alike m (done + 1) faults x in
    let turns_a = alike.turns_a in
    let turns_b = alike.turns_b in
    let ch = next_turn m last y in
    let go = Turn ch ∷ turn_events m faults left (done + 1) (Some ch) (world_step m (Turn ch) y) in
    struck_comes m n (done + 1) faults (cond (both_ended m y) [] go) x
    (elim (cases_Bool (both_ended m y)) [
      | inl over ↦ subst (λ b. ComesToEnd m n faults (cond b [] go) y) (sym over) (ends_here m n faults y (alike.begun ∙ begun) over)
      | inr more ↦
          let goes = next_goes m last y more in
          let step = one_more_turn m ch y (omega arith) (omega arith) goes in
          let sum = step.more in
          subst (λ b. ComesToEnd m n faults (cond b [] go) y) (sym more)
          (turn_comes m n faults ch (turn_events m faults left (done + 1) (Some ch) (world_step m (Turn ch) y)) y (alike.begun ∙ begun) goes
          (turns_come m n faults left (done + 1) (Some ch) (world_step m (Turn ch) y) (alike.begun ∙ begun) step.few_a step.few_b (omega arith)))
    ])
