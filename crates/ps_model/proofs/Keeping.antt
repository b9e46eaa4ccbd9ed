-- A step of what is kept is the block's step, whichever way its timer goes.
use Rattle.std.proofs.Common.{◌≡◌, ◌≢◌, ℕ, zero, suc, ◌+◌, ◌-◌, ◌≤◌, Bool, true, false, cond, refl, sym, ap, ◌∙◌, subst, inl, inr, arith, ◌&&◌, not}
use Rattle.std.specs.Prelude.{nat_le, ◌==◌}
use Rattle.std.proofs.lemmas.Bool.{true≢false, cases_lt, eq-eqb, ne_eqb, cond-false, le-leb, lt-leb}
use Rattle.ps_model.specs.declared.kind.Kind.{Kind}
use Rattle.ps_model.specs.Table.{Conditions, row_at}
use Rattle.ps_model.specs.Blocks.{Block_state, block, next, latched, moved, at_pin}
use Rattle.ps_model.specs.Kept.{Kept, StandsBy, Since, Remains, seen, runs_on, stepped, stepped_at, counted_down, aged, healed}

timer_says : (Says : ℕ → ℕ → Type 0) (runs : Bool) (anew running age : ℕ) → Says anew 0 → (runs ≡ true → Says running age) → Says (cond runs running anew) (cond runs age 0)
timer_says Says true anew running age a r = r refl
timer_says Says false anew running age a r = a

anew_says : (Says : ℕ → ℕ → Type 0) (runs runs' : Bool) (anew running age : ℕ) → runs ≡ false → runs' ≡ false → Says anew 0 → Says (cond runs running anew) (cond runs' age 0)
anew_says Says true runs' anew running age e e' a = absurd (true≢false e)
anew_says Says false true anew running age e e' a = absurd (true≢false e')
anew_says Says false false anew running age e e' a = a

and_off : (a b : Bool) → a ≡ false → (a && b) ≡ false
and_off true b e = absurd (true≢false e)
and_off false b e = refl

busy : (n : ℕ) → suc n ≢ 0
busy n e = omega arith

stands_from : (Says : ℕ → ℕ → Type 0) (kind : Kind) (limit : ℕ) (pins : ℕ → Bool) (dt : ℕ) (elapsed : Bool) (anew running : ℕ) (code age : ℕ) (reset auxiliary : Bool) (mode timer : ℕ) →
    (code ≢ 0 → elapsed ≡ nat_le limit (age + dt)) → Says anew 0 → (code ≢ 0 → Says running (age + dt)) →
    StandsBy Says (stepped kind pins elapsed anew running (record { code = code; last_reset = reset; last_auxiliary = auxiliary; mode = mode; timer = timer }))
    (moved kind limit pins dt (record { code = code; age = age; last_reset = reset; last_auxiliary = auxiliary; mode = mode }))
unfolding moved next
stands_from Says kind limit pins dt elapsed anew running zero age reset auxiliary mode timer same a r =
    let c = seen kind pins elapsed (record { code = 0; last_reset = reset; last_auxiliary = auxiliary; mode = mode; timer = timer }) in
    let c' = seen kind pins (nat_le limit (age + dt)) (record { code = 0; last_reset = reset; last_auxiliary = auxiliary; mode = mode; timer = timer }) in
    let q = next kind 0 c in
    record {
      code = refl;
      last_reset = refl;
      last_auxiliary = refl;
      mode = refl;
      timer = λ on.
          let off : (q == 0) ≡ false = ne_eqb q 0 on in
          anew_says Says (runs_on kind 0 q c) (runs_on kind 0 q c') anew running (age + dt)
          (and_off (q == 0) (not ((row_at (block kind).rows q).restart c)) off)
          (and_off (q == 0) (not ((row_at (block kind).rows q).restart c')) off) a;
    }
stands_from Says kind limit pins dt elapsed anew running (suc n) age reset auxiliary mode timer same a r =
    let k : Kept = record { code = suc n; last_reset = reset; last_auxiliary = auxiliary; mode = mode; timer = timer } in
    let b : Block_state = record { code = suc n; age = age; last_reset = reset; last_auxiliary = auxiliary; mode = mode } in
    let c = seen kind pins (nat_le limit (age + dt)) k in
    subst (λ x. StandsBy Says (stepped kind pins x anew running k) (moved kind limit pins dt b)) (sym (same (busy n))) (record {
      code = refl;
      last_reset = refl;
      last_auxiliary = refl;
      mode = refl;
      timer = λ on. timer_says Says (runs_on kind (suc n) (next kind (suc n) c) c) anew running (age + dt) a (λ x. r (busy n));
    })

-- the step of a timer that says `Says` before and `Says'` after it
pub stands_step : (Says Says' : ℕ → ℕ → Type 0) (kind : Kind) (limit : ℕ) (pins : ℕ → Bool) (dt : ℕ) (elapsed : Bool) (anew running : ℕ) (k : Kept) (b : Block_state) →
    StandsBy Says k b → (b.code ≢ 0 → elapsed ≡ nat_le limit (b.age + dt)) → Says' anew 0 → (b.code ≢ 0 → Says' running (b.age + dt)) →
    StandsBy Says' (stepped kind pins elapsed anew running k) (moved kind limit pins dt b)
stands_step Says Says' kind limit pins dt elapsed anew running k b h same a r =
    let at : k ≡ record { code = b.code; last_reset = b.last_reset; last_auxiliary = b.last_auxiliary; mode = b.mode; timer = k.timer } =
    λ i. record { code = h.code i; last_reset = h.last_reset i; last_auxiliary = h.last_auxiliary i; mode = h.mode i; timer = k.timer } in
    subst (λ x. StandsBy Says' (stepped kind pins elapsed anew running x) (moved kind limit pins dt b)) (sym at)
    (stands_from Says' kind limit pins dt elapsed anew running b.code b.age b.last_reset b.last_auxiliary b.mode k.timer same a r)

run_out : (limit age dt : ℕ) → (limit - age - dt == 0) ≡ nat_le limit (age + dt)
run_out limit age dt =
    elim (cases_lt (age + dt) limit) [
      | inl early ↦ ne_eqb (limit - age - dt) 0 (λ e. omega arith) ∙ sym (lt-leb limit (age + dt) early)
      | inr late ↦ eq-eqb (limit - age - dt) 0 (omega arith) ∙ sym (le-leb limit (age + dt) late)
    ]

-- channel B: what remains counts down as the age goes up
pub count_down : (kind : Kind) (limit : ℕ) (pins : ℕ → Bool) (passed dt : ℕ) (k : Kept) (b : Block_state) →
    StandsBy (Remains limit) k b → (b.code ≢ 0 → passed ≡ dt) → StandsBy (Remains limit) (counted_down kind limit pins passed k) (moved kind limit pins dt b)
count_down kind limit pins passed dt k b h time =
    stands_step (Remains limit) (Remains limit) kind limit pins dt (k.timer - passed == 0) limit (k.timer - passed) k b h
    (λ on. ap (λ x. x - passed == 0) (h.timer on) ∙ ap (λ x. limit - b.age - x == 0) (time on) ∙ run_out limit b.age dt)
    (omega arith)
    (λ on. let e = h.timer on in let e' = time on in omega arith)

-- channels A and C: the time since which
pub go_on : (kind : Kind) (limit : ℕ) (pins : ℕ → Bool) (t now dt : ℕ) (k : Kept) (b : Block_state) → t ≤ now →
    StandsBy (Since t) k b → (b.code ≢ 0 → dt ≡ now - t) → StandsBy (Since now) (stepped_at kind limit pins now k) (moved kind limit pins dt b)
go_on kind limit pins t now dt k b later h time =
    stands_step (Since t) (Since now) kind limit pins dt (nat_le limit (now - k.timer)) now k.timer k b h
    (λ on. let e = h.timer on in let e' = time on in let same : now - k.timer ≡ b.age + dt = omega arith in ap (nat_le limit) same)
    (omega arith)
    (λ on. let e = h.timer on in let e' = time on in omega arith)

-- a healed seat B stands for what its source stands for
pub heals : (limit t : ℕ) (k : Kept) (b : Block_state) → StandsBy (Since t) k b → StandsBy (Remains limit) (healed limit t k) b
heals limit t k b h = record {
  code = h.code;
  last_reset = h.last_reset;
  last_auxiliary = h.last_auxiliary;
  mode = h.mode;
  timer = λ on.
      let e = h.timer on in
      let same : t - k.timer ≡ b.age = omega arith in
      cond-false (k.code == 0) 0 (limit - (t - k.timer)) (ne_eqb k.code 0 (λ z. on (sym h.code ∙ z))) ∙ ap (λ x. limit - x) same;
}

-- Channels A and C at any time: a step is the block's step with the age that the kept time gives.
aged_timer : (runs : Bool) (now timer : ℕ) → now - cond runs timer now ≡ cond runs (now - timer + 0) 0
aged_timer true now timer = omega arith
aged_timer false now timer = omega arith

same_elapsed : (limit age : ℕ) → nat_le limit (age + 0) ≡ nat_le limit age
same_elapsed limit age = ap (nat_le limit) (let e : age + 0 ≡ age = omega arith in e)

pub step_is_moved : (kind : Kind) (limit : ℕ) (pins : ℕ → Bool) (now : ℕ) (k : Kept) → aged now (stepped_at kind limit pins now k) ≡ moved kind limit pins 0 (aged now k)
unfolding moved
step_is_moved kind limit pins now k =
    let c : Bool → Conditions = λ e. seen kind pins e k in
    let at : Bool → Block_state = λ e.
    let q = next kind k.code (c e) in
    record { code = q; age = cond (runs_on kind k.code q (c e)) (now - k.timer + 0) 0; last_reset = at_pin (block kind).reset pins; last_auxiliary = at_pin (block kind).auxiliary pins; mode = latched kind pins k.code q k.mode } in
    let e = nat_le limit (now - k.timer) in
    let q = next kind k.code (c e) in
    let first : aged now (stepped_at kind limit pins now k) ≡ at e =
    λ i. record { code = q; age = aged_timer (runs_on kind k.code q (c e)) now k.timer i; last_reset = at_pin (block kind).reset pins; last_auxiliary = at_pin (block kind).auxiliary pins; mode = latched kind pins k.code q k.mode } in
    first ∙ ap at (sym (same_elapsed limit (now - k.timer)))
