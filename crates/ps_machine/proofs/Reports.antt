-- Cells that stand for the state of a scan hold its report.
use Rattle.std.proofs.Common.{◌≡◌, ℕ, zero, suc, ◌+◌, ◌-◌, ◌*◌, ◌<◌, ◌≤◌, Bool, true, false, cond, List, [], ◌∷◌, length, map, drop, Some, None, refl, sym, ap, ◌∙◌, arith, get_or}
use Rattle.std.specs.Prelude.{slice_index, slice_index_or, not, ◌&&◌, ◌==◌}
use Rattle.std.specs.List.{list_all, range_with_len}
use Rattle.std.specs.Int.{w16, from_be_bytes}
use Rattle.std.proofs.lemmas.Nat.{from_be_bytes-to_be_bytes_2}
use Rattle.std.proofs.lemmas.Bool.{cond-true}
use Rattle.std.proofs.lemmas.List.{length-map, get_or-take, get_or-drop, get_or-append_right, get_or-map, ext_get_or}
use Rattle.std.proofs.lemmas.List.FromFn.{length-map-range_with_len, get_or-map-range_with_len}
use Rattle.ps_model.specs.declared.kind.Kind.{Kind}
use Rattle.ps_model.specs.declared.kind.Kind.TheVariants.{Equivalent}
use Rattle.ps_model.specs.declared.named.Instance.{Instance}
use Rattle.ps_model.specs.declared.report.Diag.{Diag}
use Rattle.ps_model.specs.declared.report.Report.{Report}
use Rattle.ps_model.specs.declared.sizes.Sizes.{Sizes}
use Rattle.ps_model.specs.Blocks.{Block_state, block, idle, outs, output_count, safe_output, ready_in, error_in}
use Rattle.ps_model.specs.Kept.{Kept}
use Rattle.ps_model.specs.Stored.{stored, Loads}
use Rattle.ps_model.specs.Network.{Network, input_count, signal_count, instance_count, kind_at, first_pin, no_instance}
use Rattle.ps_model.specs.Scanning.{State, Solves, signal_in, block_in}
use Rattle.ps_model.specs.Meaning.{report, diag_in}
use Rattle.ps_model.specs.Sized.{AreSizesOf}
use Rattle.ps_model.specs.Sound.{IsSound}
use Rattle.ps_model.proofs.Sixteen.{short_code, bit_is_one}
use Rattle.ps_model.proofs.OneSolution.{first_pin_range}
use Rattle.ps_model.proofs.OutputLengths.{output_count_is}
use Rattle.ps_machine.specs.Bytes.{bit, be2, is_no_bit, instance_bytes}
use Rattle.ps_machine.specs.Standing.{AreCellsOf}
use Rattle.ps_machine.specs.Reporting.{output_byte, past_outputs, ready_byte, error_byte, code_in, holds_report, diag_at, report_in}
use Rattle.ps_machine.proofs.Bits.{bit_is_bit}

is_bit : (b : Bool) → not (is_no_bit (bit b)) ≡ true
is_bit b = ap not (bit_is_bit b)

-- a test of each number of a range
all_in_range : (p : ℕ → Bool) (a n : ℕ) → ((j : ℕ) → a ≤ j → j < a + n → p j ≡ true) → list_all p (range_with_len a n) ≡ true
all_in_range p a zero h = refl
all_in_range p a (suc n) h =
    ap (λ b. b && list_all p (range_with_len (a + 1) n)) (h a (omega arith) (omega arith))
    ∙ all_in_range p (a + 1) n (λ j low high. h j (omega arith) (omega arith))

-- Ready and Error are the last two outputs
outs_ready : (kind : Kind) (q mode : ℕ) → slice_index_or (outs kind q mode) (length (block kind).outputs) false ≡ ready_in q
unfolding outs
outs_ready kind q mode =
    let n = length (block kind).outputs in
    let safe = map (safe_output kind q mode) (range_with_len 0 n) in
    let len : length safe ≡ n = length-map-range_with_len (safe_output kind q mode) 0 n in
    get_or-append_right safe (ready_in q ∷ error_in q ∷ []) n n false len (omega arith)
    ∙ (let e : n - n ≡ 0 = omega arith in ap (λ k. get_or (ready_in q ∷ error_in q ∷ []) k false) e)

outs_error : (kind : Kind) (q mode : ℕ) → slice_index_or (outs kind q mode) (length (block kind).outputs + 1) false ≡ error_in q
unfolding outs
outs_error kind q mode =
    let n = length (block kind).outputs in
    let safe = map (safe_output kind q mode) (range_with_len 0 n) in
    let len : length safe ≡ n = length-map-range_with_len (safe_output kind q mode) 0 n in
    get_or-append_right safe (ready_in q ∷ error_in q ∷ []) n (n + 1) false len (omega arith)
    ∙ (let e : n + 1 - n ≡ 1 = omega arith in ap (λ k. get_or (ready_in q ∷ error_in q ∷ []) k false) e)

-- the code of sixteen bytes that load
pub code_of_bytes : (kind : Kind) (cells : List ℕ) (blocks i : ℕ) (k : Kept) → Loads kind (instance_bytes blocks i cells) k → be2 cells (blocks + 16 * i) ≡ k.code
code_of_bytes kind cells blocks i k h =
    let at = blocks + 16 * i in
    let read : (j : ℕ) → j < 16 → slice_index cells (at + j) ≡ slice_index (stored k) j =
    λ j low. sym (get_or-take 16 (drop at cells) j 0 low ∙ get_or-drop at cells j 0) ∙ ap (λ bs. slice_index bs j) h.bytes_are in
    let first : slice_index cells at ≡ slice_index (stored k) 0 = let z : at ≡ at + 0 = omega arith in ap (slice_index cells) z ∙ read 0 (omega arith) in
    let second = read 1 (omega arith) in
    (λ x. from_be_bytes w16 (first x ∷ second x ∷ [])) ∙ from_be_bytes-to_be_bytes_2 k.code (short_code kind k.code h.kept.state)

module _ (net : Network) (sound : IsSound net) (z : Sizes) (sizes : AreSizesOf net z) (Says : ℕ → ℕ → ℕ → Type 0) (old new : State) (ins : List Bool) (dt first : ℕ) (cells : List ℕ)
    (solves : Solves net old ins dt new) (stands : AreCellsOf net Says new first cells) where
  output_is : (j : ℕ) → j < length net.outputs → output_byte z first cells j ≡ bit (signal_in new (input_count net + j))
  output_is j h =
      let inside : input_count net + j < signal_count net = omega arith in
      ap (λ n. slice_index cells (first + (n + j))) sizes.inputs ∙ stands.signals (input_count net + j) inside

  first_is : (i : ℕ) → i < instance_count net → slice_index_or z.first_pins i 0 ≡ first_pin net i
  first_is i h = ap (λ l. get_or l i 0) sizes.first_pins ∙ get_or-map-range_with_len (first_pin net) 0 (instance_count net) i i 0 h (omega arith)

  kind_is : (i : ℕ) → i < instance_count net → slice_index_or z.kinds i Equivalent ≡ kind_at net i
  kind_is i h = ap (λ l. get_or l i Equivalent) sizes.kinds ∙ get_or-map (λ (x : Instance). x.kind) net.instances i no_instance Equivalent h

  -- output k of instance i
  pin_is : (i k : ℕ) → i < instance_count net → k < output_count (kind_at net i) →
      slice_index cells (first + (first_pin net i + k)) ≡ bit (slice_index_or (outs (kind_at net i) (block_in new i).code (block_in new i).mode) k false)
  pin_is i k h low =
      let range = first_pin_range net sound i h in
      stands.signals (first_pin net i + k) (omega arith) ∙ ap bit (solves.pin_outputs i k h low)

  past_is : (i : ℕ) → i < instance_count net → past_outputs z first cells i ≡ first_pin net i + length (block (kind_at net i)).outputs + 2
  past_is i h =
      let e : past_outputs z first cells i ≡ first_pin net i + output_count (kind_at net i) = λ x. first_is i h x + output_count (kind_is i h x) in
      e ∙ ap (λ n. first_pin net i + n) (output_count_is (kind_at net i)) ∙ omega arith

  ready_is : (i : ℕ) → i < instance_count net → ready_byte z first cells i ≡ bit (ready_in (block_in new i).code)
  ready_is i h =
      let n = length (block (kind_at net i)).outputs in
      let many = output_count_is (kind_at net i) in
      let e : past_outputs z first cells i - 2 ≡ first_pin net i + n = omega (arith, past_is i h) in
      ap (λ s. slice_index cells (first + s)) e ∙ pin_is i n h (omega arith)
      ∙ ap bit (outs_ready (kind_at net i) (block_in new i).code (block_in new i).mode)

  error_is : (i : ℕ) → i < instance_count net → error_byte z first cells i ≡ bit (error_in (block_in new i).code)
  error_is i h =
      let n = length (block (kind_at net i)).outputs in
      let many = output_count_is (kind_at net i) in
      let e : past_outputs z first cells i - 1 ≡ first_pin net i + (n + 1) = omega (arith, past_is i h) in
      ap (λ s. slice_index cells (first + s)) e ∙ pin_is i (n + 1) h (omega arith)
      ∙ ap bit (outs_error (kind_at net i) (block_in new i).code (block_in new i).mode)

  code_is : (i : ℕ) → i < instance_count net → code_in z first cells i ≡ (block_in new i).code
  code_is i h =
      let b = stands.blocks i h in
      ap (λ n. be2 cells (first + n + 16 * i)) sizes.signals
      ∙ code_of_bytes (kind_at net i) cells (first + signal_count net) i b.kept b.loads ∙ b.stands.code

  holds_it : holds_report z first cells ≡ true
  holds_it =
      let one = all_in_range (λ j. not (is_no_bit (output_byte z first cells j))) 0 z.outputs
      (λ j low high. ap (λ b. not (is_no_bit b)) (output_is j (omega (arith, sizes.outputs))) ∙ is_bit (signal_in new (input_count net + j))) in
      let two = all_in_range (λ i. not (is_no_bit (ready_byte z first cells i)) && not (is_no_bit (error_byte z first cells i))) 0 z.instances
      (λ i low high. let h : i < instance_count net = omega (arith, sizes.instances) in
      ap (λ b. not (is_no_bit b) && not (is_no_bit (error_byte z first cells i))) (ready_is i h)
      ∙ ap (λ c. c && not (is_no_bit (error_byte z first cells i))) (is_bit (ready_in (block_in new i).code))
      ∙ ap (λ b. not (is_no_bit b)) (error_is i h) ∙ is_bit (error_in (block_in new i).code)) in
      ap (λ b. b && list_all (λ i. not (is_no_bit (ready_byte z first cells i)) && not (is_no_bit (error_byte z first cells i))) (range_with_len 0 z.instances)) one ∙ two

  outs_are : map (λ j. output_byte z first cells j == 1) (range_with_len 0 z.outputs) ≡ map (signal_in new) (range_with_len (input_count net) (length net.outputs))
  outs_are =
      let f : ℕ → Bool = λ j. output_byte z first cells j == 1 in
      let m = length net.outputs in
      let n = input_count net in
      let many : length (map f (range_with_len 0 z.outputs)) ≡ m = length-map-range_with_len f 0 z.outputs ∙ sizes.outputs in
      ext_get_or false (map f (range_with_len 0 z.outputs)) (map (signal_in new) (range_with_len n m))
      (many ∙ sym (length-map-range_with_len (signal_in new) n m))
      (λ j h. let low : j < m = omega (arith, many) in
      get_or-map-range_with_len f 0 z.outputs j j false (omega (arith, sizes.outputs)) (omega arith)
      ∙ ap (λ b. b == 1) (output_is j low) ∙ bit_is_one (signal_in new (n + j))
      ∙ sym (get_or-map-range_with_len (signal_in new) n m j (n + j) false low refl))

  diag_is : (i : ℕ) → i < instance_count net → diag_at z first cells i ≡ diag_in (block_in new i).code
  diag_is i h =
      let r : (ready_byte z first cells i == 1) ≡ ready_in (block_in new i).code = ap (λ b. b == 1) (ready_is i h) ∙ bit_is_one (ready_in (block_in new i).code) in
      let e : (error_byte z first cells i == 1) ≡ error_in (block_in new i).code = ap (λ b. b == 1) (error_is i h) ∙ bit_is_one (error_in (block_in new i).code) in
      λ x. record { ready = r x; error = e x; code = code_is i h x }

  diags_are : map (diag_at z first cells) (range_with_len 0 z.instances) ≡ map (λ (b : Block_state). diag_in b.code) new.blocks
  diags_are =
      let g : Block_state → Diag = λ b. diag_in b.code in
      let d : Diag = diag_in 0 in
      let n = instance_count net in
      let many : length (map (diag_at z first cells) (range_with_len 0 z.instances)) ≡ n = length-map-range_with_len (diag_at z first cells) 0 z.instances ∙ sizes.instances in
      ext_get_or d (map (diag_at z first cells) (range_with_len 0 z.instances)) (map g new.blocks)
      (many ∙ sym (length-map new.blocks g ∙ solves.block_each))
      (λ i h. let low : i < n = omega (arith, many) in
      get_or-map-range_with_len (diag_at z first cells) 0 z.instances i i d (omega (arith, sizes.instances)) (omega arith)
      ∙ diag_is i low
      ∙ sym (get_or-map g new.blocks i idle d (omega (arith, solves.block_each))))

  pub holds_its_report : report_in z first cells ≡ Some (report net new)
  holds_its_report =
      let held : Report = record { outs = map (λ j. output_byte z first cells j == 1) (range_with_len 0 z.outputs); diags = map (diag_at z first cells) (range_with_len 0 z.instances) } in
      let is : held ≡ report net new = λ x. record { outs = outs_are x; diags = diags_are x } in
      cond-true (holds_report z first cells) (Some held) None holds_it ∙ ap Some is

-- a report that cells hold has the sizes of the application
pub report_in_sized : (z : Sizes) (first : ℕ) (cells : List ℕ) (r : Report) → report_in z first cells ≡ Some r →
    (length r.outs ≡ z.outputs) × (length r.diags ≡ z.instances)
report_in_sized z first cells r h = by_test (holds_report z first cells) h
  where
    outs : List Bool
    outs = map (λ j. output_byte z first cells j == 1) (range_with_len 0 z.outputs)

    diags : List Diag
    diags = map (diag_at z first cells) (range_with_len 0 z.instances)

    by_test : (b : Bool) → cond b (Some (record { outs = outs; diags = diags })) None ≡ Some r → (length r.outs ≡ z.outputs) × (length r.diags ≡ z.instances)
    by_test false e = absurd (cc)
    by_test true e =
        let same : record { outs = outs; diags = diags } ≡ r = cc in (
          ap (λ (q : Report). length q.outs) (sym same) ∙ length-map-range_with_len (λ j. output_byte z first cells j == 1) 0 z.outputs,
          ap (λ (q : Report). length q.diags) (sym same) ∙ length-map-range_with_len (diag_at z first cells) 0 z.instances,
        )
