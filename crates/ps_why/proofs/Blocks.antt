-- A block that stands for an instance stands for it after a scan.
use Rattle.std.proofs.Common.{◌≡◌, ◌≢◌, ℕ, ◌-◌, ◌+◌, ◌≤◌, true, List, inl, inr, subst, sym, ap, ◌∙◌, arith}
use Rattle.std.specs.Prelude.{Some, ◌==◌, nat_le, nat_lt, slice_get}
use Rattle.std.specs.List.{list_any}
use Rattle.std.proofs.lemmas.Bool.{cases_Bool, cases_lt, cond-false, cond-true, eq-eqb, eqb-true, le-leb, lt-leb, ltb-true, ne_eqb}
use mathlib.Core.Path.{fun_ext}
use Rattle.ps_model.specs.Action.{Actual, calls}
use Rattle.ps_model.specs.Blocks.{Block_state, mode_states}
use Rattle.ps_model.specs.Stored.{IsKept, is_mode}
use Rattle.ps_model.specs.declared.kind.Kind.{Kind}
use Rattle.ps_model.specs.declared.kind.Kind.TheVariants.{Equivalent, Antivalent, EmergencyStop, Espe, ModeSelector}
use Rattle.ps_model.specs.declared.kind.Kind.TheVariants.{TwoHandTwo, TwoHandThree, GuardMonitoring, GuardLocking}
use Rattle.ps_model.specs.declared.kind.Kind.TheVariants.{EnableSwitch, SafetyRequest, OutControl, Edm}
use Rattle.ps_model.specs.Kept.{Kept, Remains, StandsBy, counted_down}
use Rattle.ps_model.specs.Network.{Network, kind_at}
use Rattle.ps_model.specs.PinBits.{pin_of}
use Rattle.ps_model.specs.Scanning.{block_in, limit_of, pins_under, read_at}
use Rattle.ps_model.proofs.Keeping.{count_down}
use Rattle.ps_machine.proofs.Between.{reads_are}
use Rattle.ps_machine.specs.Reading.{read_in}
use Rattle.ps_machine.specs.declared.signals.Signals.{Signals}
use Rattle.ps_rows.specs.Counted.{kept_of}
use Rattle.ps_rows.specs.declared.step.CountedBlock.{CountedBlock}
use Rattle.ps_why.specs.Keeping.{StepsSo, stepped_as}
use Rattle.ps_why.proofs.So.{one_call}

-- the limit has elapsed where nothing remains of it
run_out : (limit age dt : ℕ) → (limit - age - dt == 0) ≡ nat_le limit (age + dt)
run_out limit age dt =
    elim (cases_lt (age + dt) limit) [
      | inl early ↦ ne_eqb (limit - age - dt) 0 (λ e. omega arith) ∙ sym (lt-leb limit (age + dt) early)
      | inr late ↦ eq-eqb (limit - age - dt) 0 (omega arith) ∙ sym (le-leb limit (age + dt) late)
    ]

-- a mode that can be kept is one of eight
small : (kind : Kind) (code mode : ℕ) → is_mode kind code mode ≡ true → mode ≤ 7
small ModeSelector code mode h =
    elim (cases_Bool (list_any (λ x. x == code) mode_states)) [
      | inl on ↦ let below = ltb-true mode 8 (sym (cond-true (list_any (λ x. x == code) mode_states) (nat_lt mode 8) (mode == 0) on) ∙ h) in omega arith
      | inr off ↦ let none = eqb-true mode 0 (sym (cond-false (list_any (λ x. x == code) mode_states) (nat_lt mode 8) (mode == 0) off) ∙ h) in omega arith
    ]
small Equivalent code mode h = let none = eqb-true mode 0 h in omega arith
small Antivalent code mode h = let none = eqb-true mode 0 h in omega arith
small EmergencyStop code mode h = let none = eqb-true mode 0 h in omega arith
small Espe code mode h = let none = eqb-true mode 0 h in omega arith
small TwoHandTwo code mode h = let none = eqb-true mode 0 h in omega arith
small TwoHandThree code mode h = let none = eqb-true mode 0 h in omega arith
small GuardMonitoring code mode h = let none = eqb-true mode 0 h in omega arith
small GuardLocking code mode h = let none = eqb-true mode 0 h in omega arith
small EnableSwitch code mode h = let none = eqb-true mode 0 h in omega arith
small SafetyRequest code mode h = let none = eqb-true mode 0 h in omega arith
small OutControl code mode h = let none = eqb-true mode 0 h in omega arith
small Edm code mode h = let none = eqb-true mode 0 h in omega arith

pub small_mode : (kind : Kind) (k : Kept) → IsKept kind k → k.mode ≤ 7
small_mode kind k h = small kind k.code k.mode h.mode

pub steps_so : (net : Network) (i k bits passed : ℕ) (args : List Actual) (b after : CountedBlock) (x : Signals) →
    slice_get net.steps k ≡ Some (calls i args) →
    ((j : ℕ) → pin_of bits j ≡ pins_under (read_in net x k) (kind_at net i) args j) →
    kept_of after ≡ counted_down (kind_at net i) (limit_of (kind_at net i) args) (pin_of bits) passed (kept_of b) →
    StepsSo net i b passed x (stepped_as k b passed after)
steps_so net i k bits passed args b after x stands pins is old ins since new solves before behind args' there h' time =
    let kind = kind_at net i in
    let limit = limit_of kind args in
    let same : args' ≡ args = one_call net (λ i args. args) args k i i args args' stands there in
    let h : StandsBy (Remains limit) (kept_of b) (block_in old i) =
    subst (λ (bs : List Actual). StandsBy (Remains (limit_of kind bs)) (kept_of b) (block_in old i)) same h' in
    let read : pin_of bits ≡ pins_under (read_at net old new k) kind args =
    fun_ext pins ∙ ap (λ v. pins_under v kind args) (reads_are net x.before.now x.behind.now old new before behind k) in
    let stands_new : StandsBy (Remains limit) (kept_of after) (block_in new i) =
    subst (λ (q : Kept). StandsBy (Remains limit) q (block_in new i)) (sym (is ∙ ap (λ p. counted_down kind limit p passed (kept_of b)) read))
    (subst (λ (s : Block_state). StandsBy (Remains limit) (counted_down kind limit (pins_under (read_at net old new k) kind args) passed (kept_of b)) s)
    (sym (solves.called k i args stands))
    (count_down kind limit (pins_under (read_at net old new k) kind args) passed since (kept_of b) (block_in old i) h time)) in (
      record {
        from = sym h.code;
        reset = sym h.last_reset;
        auxiliary = sym h.last_auxiliary;
        mode_before = sym h.mode;
        elapsed = λ on args'' there''.
            let busy : (block_in old i).code ≢ 0 = λ e. on (h.code ∙ e) in
            let same'' : args'' ≡ args = one_call net (λ i args. args) args k i i args args'' stands there'' in
            ap (λ (bs : List Actual). nat_le (limit_of kind bs) ((block_in old i).age + since)) same''
            ∙ sym (run_out limit (block_in old i).age since)
            ∙ ap (λ n. limit - (block_in old i).age - n == 0) (sym (time busy))
            ∙ ap (λ n. n - passed == 0) (sym (h.timer busy));
        code = sym stands_new.code;
        mode = sym stands_new.mode;
      },
      subst (λ (bs : List Actual). StandsBy (Remains (limit_of kind bs)) (kept_of after) (block_in new i)) (sym same) stands_new,
    )
