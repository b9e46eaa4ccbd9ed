-- What is kept, and its sixteen bytes.
use Rattle.std.proofs.Common.{◌≡◌, ℕ, zero, suc, ◌^◌, ◌<◌, ◌≤◌, Bool, true, false, cond, List, [], ◌∷◌, ◌++◌, length, refl, sym, ap, ◌∙◌, subst, ⊎_elim, arith, Option, Some, None, get_or}
use Rattle.std.specs.Prelude.{nat_lt, nat_le, not, ◌&&◌, ◌||◌, ◌==◌, drop}
use Rattle.std.specs.List.{list_all, list_any, range_with_len}
use Rattle.std.specs.Int.{from_be_bytes, w32}
use Rattle.std.proofs.lemmas.Bool.{false≢true, cases_Bool, and_parts, cond-true, cond-false, eqb-true, ltb-true, leb-true}
use Rattle.std.proofs.lemmas.Nat.{from_be_bytes-to_be_bytes_2, from_be_bytes-to_be_bytes_4, be_bytes_2, be_bytes_4}
use Rattle.std.proofs.lemmas.List.FromFn.{fill_by_all}
use Rattle.std.proofs.lemmas.Option.{same_Some}
use Rattle.ps_model.specs.declared.kind.Kind.{Kind}
use Rattle.ps_model.specs.declared.kind.Kind.TheVariants.{Equivalent, Antivalent, EmergencyStop, Espe, ModeSelector, TwoHandTwo, TwoHandThree, GuardMonitoring, GuardLocking, EnableSwitch, SafetyRequest, OutControl, Edm}
use Rattle.ps_model.specs.Table.{Conditions, Row, Rule, decided, row_at}
use Rattle.ps_model.specs.Blocks.{block, next, latched, lowest_on, mode_states, at_pin}
use Rattle.ps_model.specs.Kept.{Kept, seen, runs_on, stepped}
use Rattle.ps_model.specs.Stored.{bit, stored, states, is_state, is_last, is_mode, IsKept, Loads, be2, be4, kept_in, does_load, loaded}

pub at_each : (p : ℕ → Bool) (xs : List ℕ) (q : ℕ) → list_all p xs ≡ true → list_any (λ x. x == q) xs ≡ true → p q ≡ true
at_each p [] q h s = absurd (false≢true s)
at_each p (x ∷ xs) q h s =
    let both = and_parts (p x) (list_all p xs) h in
    ⊎_elim (λ y. ap p (sym (eqb-true x q y)) ∙ both.0)
    (λ n. at_each p xs q both.1 (sym (ap (λ b. b || list_any (λ y. y == q) xs) n) ∙ s)) (cases_Bool (x == q))

-- every next state of a table is a state, and its codes are short: by computation
leads_on : Kind → Row → Bool
leads_on kind r = list_all (λ (x : Rule). is_state kind x.next) r.rules

leads_to_states : Kind → Bool
leads_to_states kind = is_state kind (block kind).first && list_all (leads_on kind) (block kind).rows

rules_lead_to_states : (kind : Kind) → leads_to_states kind ≡ true
unfolding block leads_to_states leads_on
rules_lead_to_states Equivalent = refl
rules_lead_to_states Antivalent = refl
rules_lead_to_states EmergencyStop = refl
rules_lead_to_states Espe = refl
rules_lead_to_states ModeSelector = refl
rules_lead_to_states TwoHandTwo = refl
rules_lead_to_states TwoHandThree = refl
rules_lead_to_states GuardMonitoring = refl
rules_lead_to_states GuardLocking = refl
rules_lead_to_states EnableSwitch = refl
rules_lead_to_states SafetyRequest = refl
rules_lead_to_states OutControl = refl
rules_lead_to_states Edm = refl

all_short : (kind : Kind) → list_all (λ x. nat_lt x 65536) (states kind) ≡ true
unfolding block
all_short Equivalent = refl
all_short Antivalent = refl
all_short EmergencyStop = refl
all_short Espe = refl
all_short ModeSelector = refl
all_short TwoHandTwo = refl
all_short TwoHandThree = refl
all_short GuardMonitoring = refl
all_short GuardLocking = refl
all_short EnableSwitch = refl
all_short SafetyRequest = refl
all_short OutControl = refl
all_short Edm = refl

pub short_code : (kind : Kind) (q : ℕ) → is_state kind q ≡ true → q < 65536
short_code kind q h = ltb-true q 65536 (at_each (λ x. nat_lt x 65536) (states kind) q (all_short kind) h)

decided_is : (p : ℕ → Bool) (rules : List Rule) (q : ℕ) (c : Conditions) → p q ≡ true → list_all (λ (x : Rule). p x.next) rules ≡ true → p (decided q rules c) ≡ true
decided_is p [] q c h a = h
decided_is p (r ∷ rules) q c h a =
    let both = and_parts (p r.next) (list_all (λ (x : Rule). p x.next) rules) a in
    ⊎_elim (λ y. ap p (cond-true (r.guard c) r.next (decided q rules c) y) ∙ both.0)
    (λ n. ap p (cond-false (r.guard c) r.next (decided q rules c) n) ∙ decided_is p rules q c h both.1) (cases_Bool (r.guard c))

row_leads : (kind : Kind) (rows : List Row) (q : ℕ) → list_all (leads_on kind) rows ≡ true → leads_on kind (row_at rows q) ≡ true
unfolding leads_on
row_leads kind [] q h = refl
row_leads kind (r ∷ rows) q h =
    let both = and_parts (leads_on kind r) (list_all (leads_on kind) rows) h in
    ⊎_elim (λ y. ap (leads_on kind) (cond-true (r.state == q) r (row_at rows q) y) ∙ both.0)
    (λ n. ap (leads_on kind) (cond-false (r.state == q) r (row_at rows q) n) ∙ row_leads kind rows q both.1) (cases_Bool (r.state == q))

pub next_is_state : (kind : Kind) (q : ℕ) (c : Conditions) → is_state kind q ≡ true → is_state kind (next kind q c) ≡ true
unfolding next leads_to_states leads_on
next_is_state kind q c h =
    let both = and_parts (is_state kind (block kind).first) (list_all (leads_on kind) (block kind).rows) (rules_lead_to_states kind) in
    let by_table = decided_is (is_state kind) (row_at (block kind).rows q).rules q c h (row_leads kind (block kind).rows q both.1) in
    let d = decided q (row_at (block kind).rows q).rules c in
    ⊎_elim (λ y. ap (is_state kind) (cond-true (not (c.pin 0)) 0 (cond (q == 0) (block kind).first d) y))
    (λ n. ap (is_state kind) (cond-false (not (c.pin 0)) 0 (cond (q == 0) (block kind).first d) n)
    ∙ ⊎_elim (λ y. ap (is_state kind) (cond-true (q == 0) (block kind).first d y) ∙ both.0)
    (λ m. ap (is_state kind) (cond-false (q == 0) (block kind).first d m) ∙ by_table) (cases_Bool (q == 0)))
    (cases_Bool (not (c.pin 0)))

-- the latched mode
lowest_small : (pins : ℕ → Bool) → nat_lt (lowest_on (range_with_len 0 8) pins) 8 ≡ true
lowest_small pins = by (pins 1) (pins 2) (pins 3) (pins 4) (pins 5) (pins 6) (pins 7) (pins 8)
  where
    by : (a b c d e f g h : Bool) → nat_lt (cond a 0 (cond b 1 (cond c 2 (cond d 3 (cond e 4 (cond f 5 (cond g 6 (cond h 7 0)))))))) 8 ≡ true
    by true b c d e f g h = refl
    by false true c d e f g h = refl
    by false false true d e f g h = refl
    by false false false true e f g h = refl
    by false false false false true f g h = refl
    by false false false false false true g h = refl
    by false false false false false false true h = refl
    by false false false false false false false true = refl
    by false false false false false false false false = refl

latch : (inside entered : Bool) (low mode : ℕ) → nat_lt low 8 ≡ true → nat_lt mode 8 ≡ true → cond inside (nat_lt (cond inside (cond entered low mode) 0) 8) (cond inside (cond entered low mode) 0 == 0) ≡ true
latch true true low mode a b = a
latch true false low mode a b = b
latch false entered low mode a b = refl

was_small : (inside : Bool) (mode : ℕ) → cond inside (nat_lt mode 8) (mode == 0) ≡ true → nat_lt mode 8 ≡ true
was_small true mode h = h
was_small false mode h = let e = eqb-true mode 0 h in ap (λ m. nat_lt m 8) e

mode_is : (kind : Kind) (pins : ℕ → Bool) (q q' mode : ℕ) → is_mode kind q mode ≡ true → is_mode kind q' (latched kind pins q q' mode) ≡ true
unfolding latched
mode_is ModeSelector pins q q' mode h =
    latch (list_any (λ x. x == q') mode_states) (q == 0x8005) (lowest_on (range_with_len 0 8) pins) mode (lowest_small pins) (was_small (list_any (λ x. x == q) mode_states) mode h)
mode_is Equivalent pins q q' mode h = refl
mode_is Antivalent pins q q' mode h = refl
mode_is EmergencyStop pins q q' mode h = refl
mode_is Espe pins q q' mode h = refl
mode_is TwoHandTwo pins q q' mode h = refl
mode_is TwoHandThree pins q q' mode h = refl
mode_is GuardMonitoring pins q q' mode h = refl
mode_is GuardLocking pins q q' mode h = refl
mode_is EnableSwitch pins q q' mode h = refl
mode_is SafetyRequest pins q q' mode h = refl
mode_is OutControl pins q q' mode h = refl
mode_is Edm pins q q' mode h = refl

bit_small : (b : Bool) → nat_le (bit b) 1 ≡ true
bit_small true = refl
bit_small false = refl

last_is : (o : Option ℕ) (pins : ℕ → Bool) → is_last o (bit (at_pin o pins)) ≡ true
last_is None pins = refl
last_is (Some j) pins = bit_small (pins j)

pub bit_is_one : (b : Bool) → (bit b == 1) ≡ b
bit_is_one true = refl
bit_is_one false = refl

both_true : (a b : Bool) → a ≡ true → b ≡ true → (a && b) ≡ true
both_true a b p q = ap (λ x. x && b) p ∙ q

-- what a kind can keep is loaded from its bytes
pub load_of_store : (kind : Kind) (k : Kept) → IsKept kind k → loaded kind (stored k) ≡ Some k
load_of_store kind k h =
    let e1 : be2 (stored k) 0 ≡ k.code = from_be_bytes-to_be_bytes_2 k.code (short_code kind k.code h.state) in
    let e2 : be4 (stored k) 5 ≡ k.timer = from_be_bytes-to_be_bytes_4 k.timer h.timer in
    let all : does_load kind (stored k) ≡ true =
    both_true _ _ (both_true _ _ (both_true _ _ (both_true _ _ (ap (is_state kind) e1 ∙ h.state) h.last_reset) h.last_auxiliary) (ap (λ c. is_mode kind c k.mode) e1 ∙ h.mode)) refl in
    cond-true (does_load kind (stored k)) (Some (kept_in (stored k))) None all
    ∙ (λ i. Some (record { code = e1 i; last_reset = bit_is_one k.last_reset i; last_auxiliary = bit_is_one k.last_auxiliary i; mode = k.mode; timer = e2 i }))

pub loads_loaded : (kind : Kind) (bytes : List ℕ) (k : Kept) → Loads kind bytes k → loaded kind bytes ≡ Some k
loads_loaded kind bytes k h = ap (loaded kind) h.bytes_are ∙ load_of_store kind k h.kept

-- sixteen bytes stand for at most one state
pub loads_one : (kind : Kind) (bytes : List ℕ) (k k' : Kept) → Loads kind bytes k → Loads kind bytes k' → k ≡ k'
loads_one kind bytes k k' h h' = same_Some k k' (sym (loads_loaded kind bytes k h) ∙ loads_loaded kind bytes k' h')

-- a step of what a kind can keep gives what it can keep
timer_small : (runs : Bool) (running anew : ℕ) → running < 2 ^ 32 → anew < 2 ^ 32 → cond runs running anew < 2 ^ 32
timer_small true running anew a b = a
timer_small false running anew a b = b

pub step_kept : (kind : Kind) (pins : ℕ → Bool) (elapsed : Bool) (anew running : ℕ) (k : Kept) → IsKept kind k → anew < 2 ^ 32 → running < 2 ^ 32 → IsKept kind (stepped kind pins elapsed anew running k)
step_kept kind pins elapsed anew running k h a r =
    let c = seen kind pins elapsed k in
    let q = next kind k.code c in
    record {
      state = next_is_state kind k.code c h.state;
      last_reset = last_is (block kind).reset pins;
      last_auxiliary = last_is (block kind).auxiliary pins;
      mode = mode_is kind pins k.code q k.mode h.mode;
      timer = timer_small (runs_on kind k.code q c) running anew r a;
    }

-- ---- bytes that are read are those that are stored
-- sixteen bytes one by one
pub as_sixteen : (xs : List ℕ) → length xs ≡ 16 →
    xs ≡ get_or xs 0 0 ∷ get_or xs 1 0 ∷ get_or xs 2 0 ∷ get_or xs 3 0 ∷ get_or xs 4 0 ∷ get_or xs 5 0 ∷ get_or xs 6 0 ∷ get_or xs 7 0
    ∷ get_or xs 8 0 ∷ get_or xs 9 0 ∷ get_or xs 10 0 ∷ get_or xs 11 0 ∷ get_or xs 12 0 ∷ get_or xs 13 0 ∷ get_or xs 14 0 ∷ get_or xs 15 0 ∷ []
as_sixteen xs h = fill_by_all (λ k. get_or xs k 0) xs 16 0 h (λ k _. refl)

pub flag : (n : ℕ) → n ≤ 1 → bit (n == 1) ≡ n
flag zero h = refl
flag (suc zero) h = refl
flag (suc (suc n)) h = absurd (omega arith)

two_below : (a b : ℕ) → a < 256 → b < 256 → (i : ℕ) → get_or (a ∷ b ∷ []) i 0 < 256
two_below a b p q zero = p
two_below a b p q (suc zero) = q
two_below a b p q (suc (suc i)) = omega arith

four_below : (a b c d : ℕ) → a < 256 → b < 256 → c < 256 → d < 256 → (i : ℕ) → get_or (a ∷ b ∷ c ∷ d ∷ []) i 0 < 256
four_below a b c d p q r s zero = p
four_below a b c d p q r s (suc zero) = q
four_below a b c d p q r s (suc (suc zero)) = r
four_below a b c d p q r s (suc (suc (suc zero))) = s
four_below a b c d p q r s (suc (suc (suc (suc i)))) = omega arith

module _ (xs : List ℕ) (k : Kept) (long : length xs ≡ 16) (bytes : (i : ℕ) → get_or xs i 0 < 256) where
  pub stored_is : k.code ≡ be2 xs 0 →
      bit k.last_reset ≡ get_or xs 2 0 → bit k.last_auxiliary ≡ get_or xs 3 0 → k.mode ≡ get_or xs 4 0 → k.timer ≡ be4 xs 5 →
      0 ≡ get_or xs 9 0 → 0 ≡ get_or xs 10 0 → 0 ≡ get_or xs 11 0 → 0 ≡ get_or xs 12 0 → 0 ≡ get_or xs 13 0 → 0 ≡ get_or xs 14 0 → 0 ≡ get_or xs 15 0 →
      stored k ≡ xs
  stored_is code reset auxiliary mode timer z9 z10 z11 z12 z13 z14 z15 =
      let codes = be_bytes_2 (get_or xs 0 0 ∷ get_or xs 1 0 ∷ []) k.code refl (two_below _ _ (bytes 0) (bytes 1)) code in
      let times = be_bytes_4 (get_or xs 5 0 ∷ get_or xs 6 0 ∷ get_or xs 7 0 ∷ get_or xs 8 0 ∷ []) k.timer refl (four_below _ _ _ _ (bytes 5) (bytes 6) (bytes 7) (bytes 8)) timer in
      (λ i. codes i ++ (reset i ∷ auxiliary i ∷ mode i ∷ (times i ++ (z9 i ∷ z10 i ∷ z11 i ∷ z12 i ∷ z13 i ∷ z14 i ∷ z15 i ∷ []))))
      ∙ sym (as_sixteen xs long)

-- a byte of a last input is 0 or 1
pub small_last : (o : Option ℕ) (n : ℕ) → is_last o n ≡ true → n ≤ 1
small_last None n h = let e = eqb-true n 0 h in omega arith
small_last (Some j) n h = leb-true n 1 h

-- what is loaded is what some kind keeps
big_endian_small : (a b c d : ℕ) → a < 256 → b < 256 → c < 256 → d < 256 → from_be_bytes w32 (a ∷ b ∷ c ∷ d ∷ []) < 2 ^ 32
big_endian_small a b c d p q r s = omega arith

zeros_of : (a b c d e f g : ℕ) → list_all (λ x. x == 0) (a ∷ b ∷ c ∷ d ∷ e ∷ f ∷ g ∷ []) ≡ true →
    (0 ≡ a) × (0 ≡ b) × (0 ≡ c) × (0 ≡ d) × (0 ≡ e) × (0 ≡ f) × (0 ≡ g)
zeros_of a b c d e f g h =
    let p = and_parts _ _ h in
    let q = and_parts _ _ p.1 in
    let r = and_parts _ _ q.1 in
    let s = and_parts _ _ r.1 in
    let t = and_parts _ _ s.1 in
    let u = and_parts _ _ t.1 in
    let v = and_parts _ _ u.1 in
    (sym (eqb-true a 0 p.0), sym (eqb-true b 0 q.0), sym (eqb-true c 0 r.0), sym (eqb-true d 0 s.0), sym (eqb-true e 0 t.0), sym (eqb-true f 0 u.0), sym (eqb-true g 0 v.0))

module _ (kind : Kind) (xs : List ℕ) (long : length xs ≡ 16) (bytes : (i : ℕ) → get_or xs i 0 < 256) where
  kept_in_loads : does_load kind xs ≡ true → Loads kind xs (kept_in xs)
  kept_in_loads y =
      let a = and_parts _ _ y in
      let b = and_parts _ _ a.0 in
      let c = and_parts _ _ b.0 in
      let d = and_parts _ _ c.0 in
      let z = zeros_of _ _ _ _ _ _ _ (sym (ap (λ ys. list_all (λ x. x == 0) (drop 9 ys)) (as_sixteen xs long)) ∙ a.1) in
      let reset = flag (get_or xs 2 0) (small_last (block kind).reset (get_or xs 2 0) d.1) in
      let auxiliary = flag (get_or xs 3 0) (small_last (block kind).auxiliary (get_or xs 3 0) c.1) in
      record {
        kept = record {
          state = d.0;
          last_reset = ap (is_last (block kind).reset) reset ∙ d.1;
          last_auxiliary = ap (is_last (block kind).auxiliary) auxiliary ∙ c.1;
          mode = b.1;
          timer = big_endian_small _ _ _ _ (bytes 5) (bytes 6) (bytes 7) (bytes 8);
        };
        bytes_are = sym (stored_is xs (kept_in xs) long bytes refl reset auxiliary refl refl z.0 z.1 z.2 z.3 z.4 z.5 z.6);
      }

  loaded_by : (b : Bool) (k : Kept) → does_load kind xs ≡ b → cond b (Some (kept_in xs)) None ≡ Some k → Loads kind xs k
  loaded_by true k y h = subst (λ x. Loads kind xs x) (same_Some (kept_in xs) k h) (kept_in_loads y)
  loaded_by false k y h = absurd cc

  pub loaded_loads : (k : Kept) → loaded kind xs ≡ Some k → Loads kind xs k
  loaded_loads k h = loaded_by (does_load kind xs) k refl h
