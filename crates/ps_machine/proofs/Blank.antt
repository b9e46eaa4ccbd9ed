-- Zeros stand for the first state.
use Rattle.std.proofs.Common.{◌≡◌, ℕ, zero, ◌+◌, ◌*◌, ◌<◌, ◌≤◌, true, false, List, length, take, drop, refl, sym, ap, ◌∙◌, subst, inl, inr, arith, length-drop, Option, Some, None, lit<}
use Rattle.std.specs.Prelude.{replicate}
use Rattle.std.proofs.lemmas.Bool.{cases_lt}
use Rattle.std.proofs.lemmas.List.{same_lists, get_or_default, get_or-drop, get_or-take, get_or_past, get_or-replicate, length-take-le, length-replicate}
use Rattle.ps_model.specs.declared.kind.Kind.{Kind}
use Rattle.ps_model.specs.declared.kind.Kind.TheVariants.{Equivalent, Antivalent, EmergencyStop, Espe, ModeSelector, TwoHandTwo, TwoHandThree, GuardMonitoring, GuardLocking, EnableSwitch, SafetyRequest, OutControl, Edm}
use Rattle.ps_model.specs.Blocks.{block, idle}
use Rattle.ps_model.specs.Kept.{fresh}
use Rattle.ps_model.specs.Meaning.{first_state}
use Rattle.ps_model.specs.Network.{Network, signal_count, instance_count, kind_at}
use Rattle.ps_model.specs.Scanning.{signal_in, block_in}
use Rattle.ps_model.specs.Stored.{is_last, is_mode}
use Rattle.ps_machine.specs.Bytes.{bit, instance_bytes}
use Rattle.ps_machine.specs.Standing.{LoadsTo, AreCellsOf}

abbrev pub zeros : ℕ → List ℕ
zeros n = replicate n 0

zeros_of : (n p : ℕ) → p + 16 ≤ n → take 16 (drop p (zeros n)) ≡ zeros 16
zeros_of n p room =
    let none : List ℕ = replicate n 0 in
    let sixteen : List ℕ = replicate 16 0 in
    let all = length-replicate n zero in
    let ld = length-drop p none in
    let lt = length-take-le 16 (drop p none) (omega arith) in
    same_lists (take 16 (drop p none)) sixteen (lt ∙ sym (length-replicate 16 zero)) (λ k d low.
    let low16 : k < 16 = omega arith in
    let low' : k < length sixteen = omega (arith, length-replicate 16 zero) in
    get_or_default (take 16 (drop p none)) k d 0 low
    ∙ get_or-take 16 (drop p none) k 0 low16
    ∙ get_or-drop p none k 0
    ∙ get_or-replicate n (p + k) 0 0 (omega arith)
    ∙ sym (get_or-replicate 16 k 0 d low16))

-- ---- an idle instance
off_last : (o : Option ℕ) → is_last o 0 ≡ true
off_last None = refl
off_last (Some j) = refl

no_mode : (kind : Kind) → is_mode kind 0 0 ≡ true
no_mode Equivalent = refl
no_mode Antivalent = refl
no_mode EmergencyStop = refl
no_mode Espe = refl
no_mode ModeSelector = refl
no_mode TwoHandTwo = refl
no_mode TwoHandThree = refl
no_mode GuardMonitoring = refl
no_mode GuardLocking = refl
no_mode EnableSwitch = refl
no_mode SafetyRequest = refl
no_mode OutControl = refl
no_mode Edm = refl

no_state : (Says : ℕ → ℕ → Type 0) (kind : Kind) → LoadsTo Says kind (zeros 16) idle
no_state Says kind = record {
  kept = fresh;
  loads = record {
    kept = record { state = refl; last_reset = off_last (block kind).reset; last_auxiliary = off_last (block kind).auxiliary; mode = no_mode kind; timer = lit< tt };
    bytes_are = refl;
  };
  stands = record { code = refl; last_reset = refl; last_auxiliary = refl; mode = refl; timer = λ h. absurd (h refl) };
}

-- ---- all cells
pub blank_stands : (net : Network) (Says : ℕ → ℕ → ℕ → Type 0) (first : ℕ) →
    AreCellsOf net Says (first_state net) first (zeros (first + signal_count net + 16 * instance_count net))
blank_stands net Says first =
    let n = signal_count net in
    let m = instance_count net in
    let w = first_state net in
    let size = first + n + 16 * m in
    let none : (s : ℕ) → signal_in w s ≡ false = λ s. elim (cases_lt s n) [
      | inl low ↦ get_or-replicate n s false false low
      | inr high ↦ get_or_past (replicate n false) s false (omega (arith, length-replicate n false))
    ] in
    record {
      sized = length-replicate size zero;
      undriven = λ s a b. none s;
      signals = λ s l. get_or-replicate size (first + s) 0 0 (omega arith) ∙ ap bit (sym (none s));
      blocks = λ i l.
          let at : block_in w i ≡ idle = get_or-replicate m i idle idle l in
          let bytes : instance_bytes (first + n) i (zeros size) ≡ zeros 16 = zeros_of size (first + n + 16 * i) (omega arith) in
          subst (LoadsTo (Says i) (kind_at net i) (instance_bytes (first + n) i (zeros size))) (sym at)
          (subst (λ x. LoadsTo (Says i) (kind_at net i) x idle) (sym bytes) (no_state (Says i) (kind_at net i)));
    }
