-- A whole scan: stack code keeps the meaning.
use Rattle.std.proofs.Common.{◌≡◌, ℕ, ◌+◌, ◌-◌, ◌*◌, ◌^◌, ◌<◌, ◌≤◌, Bool, true, false, cond, List, [], ◌∷◌, ◌++◌, length, drop, map, refl, sym, ap, ◌∙◌, subst, inl, inr, arith, length-append, length-drop, zero-add, lit<, lit≤}
use Rattle.std.specs.Prelude.{slice_index, slice_index_or, replicate}
use Rattle.std.specs.List.{flat_map, list_any}
use Rattle.std.specs.Int.{w32, to_be_bytes, from_be_bytes}
use Rattle.std.proofs.lemmas.Bool.{cases_lt}
use Rattle.std.proofs.lemmas.Nat.{from_be_bytes-to_be_bytes_4}
use Rattle.std.proofs.lemmas.List.{get_or-map, length-map, get_or-replicate, get_or-set_same, get_or-set_other, length-set}
use Rattle.ps_model.specs.declared.sizes.Sizes.{Sizes}
use Rattle.ps_model.specs.Budgets.{turns_a}
use Rattle.ps_model.specs.Kept.{Since}
use Rattle.ps_model.specs.Meaning.{first_state}
use Rattle.ps_model.specs.Network.{Network, input_count, signal_count, instance_count, kind_at, is_call_of}
use Rattle.ps_model.specs.Running.{begun}
use Rattle.ps_model.specs.Scanning.{State, Solves, block_in}
use Rattle.ps_model.specs.Sized.{AreSizesOf}
use Rattle.ps_model.specs.Sound.{IsSound}
use Rattle.ps_model.specs.Typing.{Accepted}
use Rattle.ps_model.proofs.Once.{any_of_one}
use Rattle.ps_model.proofs.OneSolution.{other-block}
use Rattle.ps_machine.specs.Bytes.{bit, replaced}
use Rattle.ps_machine.specs.Keeping.{Passes, KeepsExactly}
use Rattle.ps_machine.specs.Machines.{turned}
use Rattle.ps_machine.specs.Progressing.{progress_said}
use Rattle.ps_machine.specs.Standing.{LoadsTo}
use Rattle.ps_machine.proofs.Blank.{zeros, blank_stands}
use Rattle.ps_machine.proofs.CalledOnce.{Timely, called_once}
use Rattle.ps_machine.proofs.Fitting.{step_fits, all_fit}
use Rattle.ps_machine.proofs.Instances.{bytes_at, block_is}
use Rattle.ps_machine.proofs.Phases.{turned_add}
use Rattle.ps_machine.proofs.Places.{length-replaced, index_before, index_within, index_after}
use Rattle.ps_machine.proofs.Reports.{holds_its_report}
use Rattle.ps_machine.proofs.Scans.{begun_input, begun_other, ends}
use Rattle.ps_stackvm.specs.declared.layout.TheConstants.{SIGNALS_AT}
use Rattle.ps_stackvm.specs.declared.instruction.Instruction.TheVariants.{End}
use Rattle.ps_stackvm.specs.Cells.{pc_of, progress_of, scan_time, with_pc, with_progress}
use Rattle.ps_stackvm.specs.Channel.{blank_a, machine_a}
use Rattle.ps_stackvm.specs.Code.{step_code, network_code, code_a}
use Rattle.ps_stackvm.specs.Instructions.{fetched}
use Rattle.ps_stackvm.specs.Stands.{StandsA}
use Rattle.ps_stackvm.specs.Turn.{turn_of, turn_a, begin_a, carried_out}
use Rattle.ps_stackgen.proofs.Instructions.{has_front, has_back, size_all, has_written}
use Rattle.ps_stackgen.proofs.Holding.{Holds, turn_is, drop_ext, index-with_pc, length-with_pc}
use Rattle.ps_stackgen.proofs.Stepping.{clock, BlocksStand, steps_led}
use Rattle.ps_stackgen.proofs.Counted.{turns_are, code_small, network_short}

-- Begin's three writes
module _ (n now : ℕ) (ins : List Bool) (cells : List ℕ) (few : length ins ≤ n) (room : SIGNALS_AT + n ≤ length cells) where
  b1 : List ℕ
  b1 = replaced cells 0 (zeros 6)

  b2 : List ℕ
  b2 = replaced b1 6 (to_be_bytes w32 now)

  len : length (map bit ins) ≡ length ins
  len = length-map ins bit

  l1 : length b1 ≡ length cells
  unfolding b1
  l1 = length-replaced cells 0 (zeros 6) (omega arith)

  l2 : length b2 ≡ length cells
  unfolding b2
  l2 = length-replaced b1 6 (to_be_bytes w32 now) (omega (arith, l1)) ∙ l1

  l3 : length (begin_a now ins cells) ≡ length cells
  unfolding b1 b2
  l3 = length-replaced b2 SIGNALS_AT (map bit ins) (omega (arith, l2, len)) ∙ l2

  head : (k : ℕ) → k < 6 → slice_index (begin_a now ins cells) k ≡ 0
  unfolding b1 b2
  head k h =
      let e : 0 + k ≡ k = zero-add k in
      index_before b2 SIGNALS_AT (map bit ins) k (omega arith) (omega (arith, l2))
      ∙ index_before b1 6 (to_be_bytes w32 now) k h (omega (arith, l1))
      ∙ ap (slice_index b1) (sym e) ∙ index_within cells 0 (zeros 6) k h (omega arith)
      ∙ get_or-replicate 6 k 0 0 h

  clock_byte : (j : ℕ) → j < 4 → slice_index (begin_a now ins cells) (6 + j) ≡ slice_index (to_be_bytes w32 now) j
  unfolding b1 b2
  clock_byte j h =
      index_before b2 SIGNALS_AT (map bit ins) (6 + j) (omega arith) (omega (arith, l2))
      ∙ index_within b1 6 (to_be_bytes w32 now) j h (omega (arith, l1))

  input : (s : ℕ) → s < length ins → slice_index (begin_a now ins cells) (SIGNALS_AT + s) ≡ bit (slice_index_or ins s false)
  unfolding b1 b2
  input s h = index_within b2 SIGNALS_AT (map bit ins) s (omega (arith, len)) (omega (arith, l2)) ∙ get_or-map bit ins s false 0 h

  beyond : (k : ℕ) → SIGNALS_AT + length ins ≤ k → slice_index (begin_a now ins cells) k ≡ slice_index cells k
  unfolding b1 b2
  beyond k h =
      index_after b2 SIGNALS_AT (map bit ins) k (omega (arith, len)) (omega (arith, l2))
      ∙ index_after b1 6 (to_be_bytes w32 now) k (omega arith) (omega (arith, l1))
      ∙ index_after cells 0 (zeros 6) k (omega arith) (omega arith)

  pc_zero : pc_of (begin_a now ins cells) ≡ 0
  pc_zero =
      let h0 = head 0 (lit< tt) in let h1 = head 1 (lit< tt) in let h2 = head 2 (lit< tt) in let h3 = head 3 (lit< tt) in
      λ x. from_be_bytes w32 (h0 x ∷ h1 x ∷ h2 x ∷ h3 x ∷ [])

  time_now : now < 2 ^ 32 → scan_time (begin_a now ins cells) ≡ now
  time_now small =
      let h0 = clock_byte 0 (lit< tt) in let h1 = clock_byte 1 (lit< tt) in let h2 = clock_byte 2 (lit< tt) in let h3 = clock_byte 3 (lit< tt) in
      (λ x. from_be_bytes w32 (h0 x ∷ h1 x ∷ h2 x ∷ h3 x ∷ [])) ∙ from_be_bytes-to_be_bytes_4 now small

module _ (net : Network) (sound : IsSound net) where
  begins : (old : State) (ins : List Bool) (t now : ℕ) (cells : List ℕ) → length ins ≡ input_count net → now < 2 ^ 32 → StandsA net old t cells →
      Holds (signal_count net) now (drop (SIGNALS_AT + signal_count net) cells) (begin_a now ins cells) 0 [] (begun net old ins).signals
  begins old ins t now cells count small stands =
      let n = signal_count net in
      let size = stands.sized in
      let few : length ins ≤ n = omega arith in
      let room : SIGNALS_AT + n ≤ length cells = omega arith in
      record {
        sized = omega (arith, l3 n now ins cells few room);
        at = pc_zero n now ins cells few room;
        height = head n now ins cells few room 4 (lit< tt);
        running = head n now ins cells few room 5 (lit< tt);
        time = time_now n now ins cells few room small;
        holds = λ k l. absurd (omega arith);
        signals = λ s l. elim (cases_lt s (input_count net)) [
          | inl low ↦
              input n now ins cells few room s (omega arith)
              ∙ ap bit (sym (begun_input net old ins s low))
          | inr high ↦
              beyond n now ins cells few room (SIGNALS_AT + s) (omega arith) ∙ stands.signals s l
              ∙ ap bit (sym (begun_other net old ins s high))
        ];
        rest = drop_ext (SIGNALS_AT + n) (begin_a now ins cells) cells (l3 n now ins cells few room) (λ j from. beyond n now ins cells few room j (omega arith));
      }

  -- each instance is still to be called
  begins_blocks : (old : State) (t now : ℕ) (cells : List ℕ) → StandsA net old t cells → BlocksStand net t now net.steps (drop (SIGNALS_AT + signal_count net) cells) (block_in old)
  begins_blocks old t now cells stands = record {
    size = omega (arith, length-drop (SIGNALS_AT + signal_count net) cells, stands.sized);
    each = λ i l.
        let bytes = bytes_at i (drop (SIGNALS_AT + signal_count net) cells) in
        let some : list_any (is_call_of net i) net.steps ≡ true = any_of_one (is_call_of net i) net.steps (sound.called_once i l) in
        let early : clock net t now net.steps i ≡ t = ap (λ b. cond b t now) some in
        subst (λ c. LoadsTo (Since c) (kind_at net i) bytes (block_in old i)) (sym early)
        (subst (λ b. LoadsTo (Since t) (kind_at net i) b (block_in old i)) (block_is (SIGNALS_AT + signal_count net) i cells (drop (SIGNALS_AT + signal_count net) cells) refl) (stands.blocks i l));
  }

  module _ (accepted : Accepted net) where
    -- a scan as the machine runs it: so many turns, then done with these cells
    record Scanned (cells : List ℕ) (new : State) (now : ℕ) : Type 0 where
      running : (j : ℕ) → j < length (network_code net) → progress_of (turned (turn_of (signal_count net) (instance_count net) (code_a net)) j cells) ≡ 0
      done : progress_of (turned (turn_of (signal_count net) (instance_count net) (code_a net)) (length (network_code net)) cells) ≡ 1
      stands : StandsA net new now (turned (turn_of (signal_count net) (instance_count net) (code_a net)) (length (network_code net)) cells)

    scanned : (old new : State) (ins : List Bool) (t now dt : ℕ) (cells : List ℕ) → t ≤ now → now < 2 ^ 32 → length ins ≡ input_count net →
        Passes old t now dt → StandsA net old t cells → Solves net old ins dt new → Scanned (begin_a now ins cells) new now
    scanned old new ins t now dt cells later small count passes stands solves =
        let n = signal_count net in
        let k = instance_count net in
        let code = code_a net in
        let fit = step_fits net sound accepted in
        let sc = flat_map (step_code net) net.steps in
        let q = begin_a now ins cells in
        let m0 = begun net old ins in
        let has = has_written (network_code net) [] (network_short net sound.few_signals sound.few_instances (all_fit net sound accepted)) (code_small net sound fit) in
        let timely : Timely net dt (now - t) net.steps m0 = λ i called on. passes i on in
        let led = steps_led net t now dt later small code net.steps m0 q 0 (drop (SIGNALS_AT + n) cells) (all_fit net sound accepted) (called_once net sound) timely
        (has_front code 0 sc (End ∷ []) has) (begins old ins t now cells count small stands) (begins_blocks old t now cells stands) in
        let x = led.comes in
        let cells1 = turned (turn_of n k code) (length sc) q in
        let pc1 = 0 + size_all sc in
        let back = has_back code 0 sc (End ∷ []) has in
        let marked = with_progress 1 cells1 in
        let final = with_pc (pc1 + 1) marked in
        let size = x.there.sized in
        let bytes = led.stand.size in
        let f1 : length marked ≡ length cells1 = length-set cells1 5 1 in
        let f2 : length final ≡ length marked = length-with_pc (pc1 + 1) marked (omega arith) in
        let lr = ap length x.there.rest in
        let ld = length-drop (SIGNALS_AT + n) cells1 in
        let count_is : length (sc ++ End ∷ []) ≡ length sc + 1 = length-append sc (End ∷ []) in
        let last : turned (turn_of n k code) (length (network_code net)) q ≡ final =
        ap (λ j. turned (turn_of n k code) j q) count_is ∙ turned_add (turn_of n k code) (length sc) 1 q ∙ turn_is n k code cells1 pc1 End x.there.at back.0 in
        let p1 : progress_of final ≡ 1 = index-with_pc (pc1 + 1) marked 5 (lit≤ tt) ∙ get_or-set_same cells1 5 1 0 (omega arith) in
        let past : (j : ℕ) → SIGNALS_AT ≤ j → slice_index final j ≡ slice_index cells1 j = λ j from.
        index-with_pc (pc1 + 1) marked j (omega arith) ∙ get_or-set_other cells1 5 j 1 0 (λ p. omega arith) in
        let rest : drop (SIGNALS_AT + n) final ≡ led.blocks = drop_ext (SIGNALS_AT + n) final cells1 (f2 ∙ f1) (λ j from. past j (omega arith)) ∙ x.there.rest in
        record {
          running = λ j l. elim (cases_lt j (length sc)) [
            | inl early ↦ x.running j early
            | inr end ↦
                let e : j ≡ length sc = omega arith in
                ap (λ i. progress_of (turned (turn_of n k code) i q)) e ∙ x.there.running
          ];
          done = ap progress_of last ∙ p1;
          stands = subst (StandsA net new now) (sym last) (record {
            sized = omega arith;
            undriven = solves.undriven;
            signals = λ s l. past (SIGNALS_AT + s) (omega arith) ∙ x.there.signals s l ∙ ap bit (ends net sound old new ins dt stands.undriven solves s l);
            blocks = λ i l.
                let here : LoadsTo (Since now) (kind_at net i) (bytes_at i led.blocks) (block_in new i) =
                subst (LoadsTo (Since now) (kind_at net i) (bytes_at i led.blocks)) (sym (other-block net sound old ins dt new solves i l)) (led.stand.each i l) in
                subst (λ b. LoadsTo (Since now) (kind_at net i) b (block_in new i)) (sym (block_is (SIGNALS_AT + n) i final led.blocks rest)) here;
          });
        }

    pub keeps_exactly : (z : Sizes) → AreSizesOf net z → KeepsExactly net (machine_a z (code_a net) (turns_a net)) (StandsA net)
    keeps_exactly z sizes =
        let n = signal_count net in
        let k = instance_count net in
        let code = code_a net in
        let turns : length (network_code net) ≡ turns_a net = turns_are net sound (step_fits net sound accepted) in
        let same : turn_of n k code ≡ turn_a z code = λ x cells. carried_out ((sym sizes.signals) x) ((sym sizes.instances) x) (fetched code (pc_of cells)) cells in
        let blank_is : zeros (SIGNALS_AT + n + 16 * k) ≡ blank_a z = λ x. replicate (SIGNALS_AT + (sym sizes.signals) x + 16 * (sym sizes.instances) x) 0 in
        record {
          blank = subst (StandsA net (first_state net) 0) blank_is (blank_stands net (λ i. Since 0) SIGNALS_AT);
          scan = λ old new ins t now dt cells later small count passes stands solves.
              let s = scanned old new ins t now dt cells later small count passes stands solves in
              let q = begin_a now ins cells in
              let done : progress_of (turned (turn_a z code) (turns_a net) q) ≡ 1 =
              subst (λ f. progress_of (turned f (turns_a net) q) ≡ 1) same (subst (λ j. progress_of (turned (turn_of n k code) j q) ≡ 1) turns s.done) in
              let held : StandsA net new now (turned (turn_a z code) (turns_a net) q) =
              subst (λ f. StandsA net new now (turned f (turns_a net) q)) same (subst (λ j. StandsA net new now (turned (turn_of n k code) j q)) turns s.stands) in
              record {
                running = λ j l.
                    ap progress_said (subst (λ f. progress_of (turned f j q) ≡ 0) same (s.running j (omega (arith, turns))));
                done = ap progress_said done;
                stands = held;
                reports = holds_its_report net sound z sizes (λ i. Since now) old new ins dt SIGNALS_AT (turned (turn_a z code) (turns_a net) q) solves held;
              };
        }
