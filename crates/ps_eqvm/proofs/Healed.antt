-- What channel B keeps of an instance stands for what the bytes that it is restored from do.
use Rattle.std.proofs.Common.{◌≡◌, ℕ, suc, ◌-◌, ◌<◌, ◌^◌, Bool, true, false, cond, List, [], ◌∷◌, refl, sym, ap, ◌∙◌, subst, arith, Some, None}
use Rattle.std.specs.Prelude.{slice_index, slice_get, nat_lt, ◌==◌}
use Rattle.std.specs.List.{list_any}
use Rattle.std.specs.Int.{w32, to_be_bytes}
use Rattle.std.proofs.lemmas.Bool.{eqb-true, ltb-true}
use Rattle.std.proofs.lemmas.Option.{same_Some}
use Rattle.ps_model.specs.declared.kind.Kind.{Kind}
use Rattle.ps_model.specs.declared.kind.Kind.TheVariants.{ModeSelector}
use Rattle.ps_model.specs.Action.{Action, Actual, assigns, calls}
use Rattle.ps_model.specs.Blocks.{Block_state, mode_states}
use Rattle.ps_model.specs.Kept.{Kept, Since, Remains, healed}
use Rattle.ps_model.specs.Network.{Network, kind_at}
use Rattle.ps_model.specs.Scanning.{limit_of}
use Rattle.ps_model.specs.Sound.{IsSound}
use Rattle.ps_model.specs.Stored.{stored, is_mode, IsKept, kept_in, does_load}
use Rattle.ps_model.proofs.CallLimits.{limit_small}
use Rattle.ps_model.proofs.Keeping.{heals}
use Rattle.ps_model.proofs.Sixteen.{load_of_store}
use Rattle.ps_machine.specs.Bytes.{replaced}
use Rattle.ps_machine.specs.Standing.{LoadsTo, limit_from, limit_in}
use Rattle.ps_eqvm.proofs.StaysPlain.{stored_bytes}
use Rattle.ps_eqvm.specs.Restoring.{counted_block}

-- ---- The limits of an application fit 32 bits.

either_small : (b : Bool) (x y : ℕ) → x < 2 ^ 32 → y < 2 ^ 32 → cond b x y < 2 ^ 32
either_small true x y h g = h
either_small false x y h g = g

limit_from_small : (net : Network) (i : ℕ) (steps : List Action) → ((k j : ℕ) (args : List Actual) → slice_get steps k ≡ Some (calls j args) → limit_of (kind_at net j) args < 2 ^ 32) →
    limit_from net i steps < 2 ^ 32
limit_from_small net i [] each = omega arith
limit_from_small net i (assigns t e ∷ rest) each = limit_from_small net i rest (λ k. each (suc k))
limit_from_small net i (calls j args ∷ rest) each =
    either_small (j == i) (limit_of (kind_at net j) args) (limit_from net i rest) (each 0 j args refl) (limit_from_small net i rest (λ k. each (suc k)))

pub limit_in_small : (net : Network) → IsSound net → (i : ℕ) → limit_in net i < 2 ^ 32
limit_in_small net sound i = limit_from_small net i net.steps (λ k j args at. limit_small net sound k j args at)

-- ---- Sixteen bytes.

some_of : (b : Bool) (x k : Kept) → cond b (Some x) None ≡ Some k → x ≡ k
some_of true x k h = same_Some x k h
some_of false x k h = absurd (cc)

read_again : (kind : Kind) (k : Kept) → IsKept kind k → kept_in (stored k) ≡ k
read_again kind k h = some_of (does_load kind (stored k)) (kept_in (stored k)) k (load_of_store kind k h)

-- another timer in the bytes of what is kept
timed : (k : Kept) (timer : ℕ) → replaced (stored k) 5 (to_be_bytes w32 timer)
    ≡ stored (record { code = k.code; last_reset = k.last_reset; last_auxiliary = k.last_auxiliary; mode = k.mode; timer = timer })
timed k timer = refl

pub counted_stored : (kind : Kind) (limit t : ℕ) (k : Kept) → IsKept kind k → counted_block limit t (stored k) ≡ stored (healed limit t k)
counted_stored kind limit t k h =
    ap (λ q. replaced (stored k) 5 (to_be_bytes w32 (healed limit t q).timer)) (read_again kind k h) ∙ timed k (healed limit t k).timer

pub healed_kept : (kind : Kind) (limit t : ℕ) (k : Kept) → limit < 2 ^ 32 → IsKept kind k → IsKept kind (healed limit t k)
healed_kept kind limit t k small h = record {
  state = h.state;
  last_reset = h.last_reset;
  last_auxiliary = h.last_auxiliary;
  mode = h.mode;
  timer = either_small (k.code == 0) 0 (limit - (t - k.timer)) (omega arith) (omega arith);
}

-- bytes that stand for a block in channels A and C stand for it in channel B once they are counted
pub counted_stands : (kind : Kind) (limit t : ℕ) (bytes : List ℕ) (b : Block_state) → limit < 2 ^ 32 → LoadsTo (Since t) kind bytes b →
    LoadsTo (Remains limit) kind (counted_block limit t bytes) b
counted_stands kind limit t bytes b small h = record {
  kept = healed limit t h.kept;
  loads = record {
    kept = healed_kept kind limit t h.kept small h.loads.kept;
    bytes_are = ap (counted_block limit t) h.loads.bytes_are ∙ counted_stored kind limit t h.kept h.loads.kept;
  };
  stands = heals limit t h.kept b h.stands;
}

-- ---- They are bytes.

mode_of_two : (b : Bool) (mode : ℕ) → cond b (nat_lt mode 8) (mode == 0) ≡ true → mode < 256
mode_of_two true mode h = let low = ltb-true mode 8 h in omega arith
mode_of_two false mode h = let none = eqb-true mode 0 h in omega arith

mode_of_none : (mode : ℕ) → (mode == 0) ≡ true → mode < 256
mode_of_none mode h = let none = eqb-true mode 0 h in omega arith

mode_small : (kind : Kind) (code mode : ℕ) → is_mode kind code mode ≡ true → mode < 256
mode_small ModeSelector code mode h = mode_of_two (list_any (λ x. x == code) mode_states) mode h
mode_small kind code mode h = mode_of_none mode h

pub counted_bytes : (kind : Kind) (limit t : ℕ) (bytes : List ℕ) (b : Block_state) → LoadsTo (Since t) kind bytes b → (i : ℕ) → slice_index (counted_block limit t bytes) i < 256
counted_bytes kind limit t bytes b h i =
    subst (λ l. slice_index l i < 256) (sym (ap (counted_block limit t) h.loads.bytes_are ∙ counted_stored kind limit t h.kept h.loads.kept))
    (stored_bytes (healed limit t h.kept) (mode_small kind h.kept.code h.kept.mode h.loads.kept.mode) i)
