-- A whole scan: decision code keeps the meaning.
use Rattle.std.proofs.Common.{◌≡◌, ℕ, ◌+◌, ◌-◌, ◌*◌, ◌^◌, ◌<◌, ◌≤◌, Bool, true, false, cond, List, [], ◌∷◌, length, drop, map, refl, sym, ap, ◌∙◌, subst, inl, inr, arith, length-append, length-drop, zero-add}
use Rattle.std.specs.Prelude.{slice_index, slice_index_or, replicate}
use Rattle.std.specs.List.{list_any}
use Rattle.std.specs.Int.{w32, to_be_bytes, from_be_bytes}
use Rattle.std.proofs.lemmas.Bool.{cases_lt}
use Rattle.std.proofs.lemmas.Nat.{from_be_bytes-to_be_bytes_4}
use Rattle.std.proofs.lemmas.List.{get_or-map, length-map, get_or-replicate, get_or-set_same, get_or-set_other, length-set}
use Rattle.ps_model.specs.declared.sizes.Sizes.{Sizes}
use Rattle.ps_model.specs.Kept.{Since}
use Rattle.ps_model.specs.Meaning.{first_state}
use Rattle.ps_model.specs.Network.{Network, input_count, signal_count, instance_count, kind_at, is_call_of}
use Rattle.ps_model.specs.Running.{begun}
use Rattle.ps_model.specs.Scanning.{State, Solves, block_in}
use Rattle.ps_model.specs.Sized.{AreSizesOf}
use Rattle.ps_model.specs.Sound.{IsSound}
use Rattle.ps_model.specs.Typing.{Accepted}
use Rattle.ps_model.proofs.Once.{any_of_one}
use Rattle.ps_model.proofs.OneSolution.{other-block}
use Rattle.ps_machine.specs.Bytes.{bit, replaced}
use Rattle.ps_machine.specs.Keeping.{Passes, Keeps}
use Rattle.ps_machine.specs.Machines.{turned}
use Rattle.ps_machine.specs.Progressing.{progress_said}
use Rattle.ps_machine.specs.Standing.{LoadsTo}
use Rattle.ps_machine.proofs.Blank.{zeros, blank_stands}
use Rattle.ps_machine.proofs.CalledOnce.{Timely, called_once}
use Rattle.ps_machine.proofs.Fitting.{all_fit}
use Rattle.ps_machine.proofs.Instances.{bytes_at, block_is}
use Rattle.ps_machine.proofs.Phases.{turned_add}
use Rattle.ps_machine.proofs.Places.{length-replaced, index_before, index_within, index_after}
use Rattle.ps_machine.proofs.Reports.{holds_its_report}
use Rattle.ps_machine.proofs.Scans.{begun_input, begun_other, ends}
use Rattle.ps_decision.specs.declared.layout.TheConstants.{SIGNALS_AT}
use Rattle.ps_decision.specs.declared.row.Row.TheVariants.{End}
use Rattle.ps_decision.specs.Budget.{turns_c}
use Rattle.ps_decision.specs.Cells.{offset_of, progress_of, scan_time, with_progress}
use Rattle.ps_decision.specs.Channel.{blank_c, machine_c}
use Rattle.ps_decision.specs.Code.{size_all, in_order, step_rows, network_rows, code_c}
use Rattle.ps_decision.specs.Rows.{fetched}
use Rattle.ps_decision.specs.Stands.{StandsC}
use Rattle.ps_decision.specs.Turn.{turn_of, turn_c, begin_c, carried_out}
use Rattle.ps_decision.proofs.PlacedRows.{has_front, has_back, has_written}
use Rattle.ps_decision.proofs.Counted.{turns_are, code_small, network_short}
use Rattle.ps_decision.proofs.Holding.{Holds, turn_is, drop_ext}
use Rattle.ps_decision.proofs.Stepping.{clock, BlocksStand, steps_led}

-- Begin's three writes
module _ (n now : ℕ) (ins : List Bool) (cells : List ℕ) (few : length ins ≤ n) (room : SIGNALS_AT + n ≤ length cells) where
  b1 : List ℕ
  b1 = replaced cells 0 (zeros 5)

  b2 : List ℕ
  b2 = replaced b1 5 (to_be_bytes w32 now)

  len : length (map bit ins) ≡ length ins
  len = length-map ins bit

  l1 : length b1 ≡ length cells
  unfolding b1
  l1 = length-replaced cells 0 (zeros 5) (omega arith)

  l2 : length b2 ≡ length cells
  unfolding b2
  l2 = length-replaced b1 5 (to_be_bytes w32 now) (omega (arith, l1)) ∙ l1

  l3 : length (begin_c now ins cells) ≡ length cells
  unfolding b1 b2
  l3 = length-replaced b2 SIGNALS_AT (map bit ins) (omega (arith, l2, len)) ∙ l2

  head : (k : ℕ) → k < 5 → slice_index (begin_c now ins cells) k ≡ 0
  unfolding b1 b2
  head k h =
      let e : 0 + k ≡ k = zero-add k in
      index_before b2 SIGNALS_AT (map bit ins) k (omega arith) (omega (arith, l2))
      ∙ index_before b1 5 (to_be_bytes w32 now) k h (omega (arith, l1))
      ∙ ap (slice_index b1) (sym e) ∙ index_within cells 0 (zeros 5) k h (omega arith)
      ∙ get_or-replicate 5 k 0 0 h

  clock_byte : (j : ℕ) → j < 4 → slice_index (begin_c now ins cells) (5 + j) ≡ slice_index (to_be_bytes w32 now) j
  unfolding b1 b2
  clock_byte j h =
      index_before b2 SIGNALS_AT (map bit ins) (5 + j) (omega arith) (omega (arith, l2))
      ∙ index_within b1 5 (to_be_bytes w32 now) j h (omega (arith, l1))

  input : (s : ℕ) → s < length ins → slice_index (begin_c now ins cells) (SIGNALS_AT + s) ≡ bit (slice_index_or ins s false)
  unfolding b1 b2
  input s h = index_within b2 SIGNALS_AT (map bit ins) s (omega (arith, len)) (omega (arith, l2)) ∙ get_or-map bit ins s false 0 h

  beyond : (k : ℕ) → SIGNALS_AT + length ins ≤ k → slice_index (begin_c now ins cells) k ≡ slice_index cells k
  unfolding b1 b2
  beyond k h =
      index_after b2 SIGNALS_AT (map bit ins) k (omega (arith, len)) (omega (arith, l2))
      ∙ index_after b1 5 (to_be_bytes w32 now) k (omega arith) (omega (arith, l1))
      ∙ index_after cells 0 (zeros 5) k (omega arith) (omega arith)

  offset_zero : offset_of (begin_c now ins cells) ≡ 0
  offset_zero =
      let h0 = head 0 (omega arith) in let h1 = head 1 (omega arith) in let h2 = head 2 (omega arith) in let h3 = head 3 (omega arith) in
      λ x. from_be_bytes w32 (h0 x ∷ h1 x ∷ h2 x ∷ h3 x ∷ [])

  time_now : now < 2 ^ 32 → scan_time (begin_c now ins cells) ≡ now
  time_now small =
      let h0 = clock_byte 0 (omega arith) in let h1 = clock_byte 1 (omega arith) in let h2 = clock_byte 2 (omega arith) in let h3 = clock_byte 3 (omega arith) in
      (λ x. from_be_bytes w32 (h0 x ∷ h1 x ∷ h2 x ∷ h3 x ∷ [])) ∙ from_be_bytes-to_be_bytes_4 now small

module _ (net : Network) (sound : IsSound net) where
  begins : (old : State) (ins : List Bool) (t now : ℕ) (cells : List ℕ) → length ins ≡ input_count net → now < 2 ^ 32 → StandsC net old t cells →
      Holds (signal_count net) now (drop (SIGNALS_AT + signal_count net) cells) (begin_c now ins cells) 0 [] (begun net old ins).signals
  begins old ins t now cells count small stands =
      let n = signal_count net in
      let size = stands.sized in
      let few : length ins ≤ n = omega arith in
      let room : SIGNALS_AT + n ≤ length cells = omega arith in
      record {
        sized = omega (arith, l3 n now ins cells few room);
        there = offset_zero n now ins cells few room;
        running = head n now ins cells few room 4 (omega arith);
        time = time_now n now ins cells few room small;
        pinned = λ k l. absurd (omega arith);
        few_pins = omega arith;
        signals = λ s l. elim (cases_lt s (input_count net)) [
          | inl low ↦
              input n now ins cells few room s (omega arith)
              ∙ ap bit (sym (begun_input net old ins s low))
          | inr high ↦
              beyond n now ins cells few room (SIGNALS_AT + s) (omega arith) ∙ stands.signals s l
              ∙ ap bit (sym (begun_other net old ins s high))
        ];
        rest = drop_ext (SIGNALS_AT + n) (begin_c now ins cells) cells (l3 n now ins cells few room) (λ j from. beyond n now ins cells few room j (omega arith));
      }

  -- each instance is still to be called
  begins_blocks : (old : State) (t now : ℕ) (cells : List ℕ) → StandsC net old t cells → BlocksStand net t now net.steps (drop (SIGNALS_AT + signal_count net) cells) (block_in old)
  begins_blocks old t now cells stands = record {
    size = omega (arith, length-drop (SIGNALS_AT + signal_count net) cells, stands.sized);
    each = λ i l.
        let bytes = bytes_at i (drop (SIGNALS_AT + signal_count net) cells) in
        let some : list_any (is_call_of net i) net.steps ≡ true = any_of_one (is_call_of net i) net.steps (sound.called_once i l) in
        let early : clock net t now net.steps i ≡ t = ap (λ b. cond b t now) some in
        subst (λ c. LoadsTo (Since c) (kind_at net i) bytes (block_in old i)) (sym early)
        (subst (λ b. LoadsTo (Since t) (kind_at net i) b (block_in old i)) (block_is (SIGNALS_AT + signal_count net) i cells (drop (SIGNALS_AT + signal_count net) cells) refl) (stands.blocks i l));
  }

  module _ (accepted : Accepted net) where
    -- a scan as the machine runs it: at most so many turns, then done with these cells
    record Scanned (cells : List ℕ) (new : State) (now : ℕ) : Type 0 where
      turns : ℕ
      within : turns ≤ length (network_rows net)
      running : (j : ℕ) → j < turns → progress_of (turned (turn_of (signal_count net) (instance_count net) (code_c net)) j cells) ≡ 0
      done : progress_of (turned (turn_of (signal_count net) (instance_count net) (code_c net)) turns cells) ≡ 1
      stands : StandsC net new now (turned (turn_of (signal_count net) (instance_count net) (code_c net)) turns cells)

    scanned : (old new : State) (ins : List Bool) (t now dt : ℕ) (cells : List ℕ) → t ≤ now → now < 2 ^ 32 → length ins ≡ input_count net →
        Passes old t now dt → StandsC net old t cells → Solves net old ins dt new → Scanned (begin_c now ins cells) new now
    scanned old new ins t now dt cells later small count passes stands solves =
        let n = signal_count net in
        let k = instance_count net in
        let code = code_c net in
        let rows = in_order (step_rows net) net.steps 0 in
        let q = begin_c now ins cells in
        let m0 = begun net old ins in
        let has = has_written (network_rows net) [] (network_short net sound.few_signals sound.few_instances sound (all_fit net sound accepted)) (code_small net sound) in
        let timely : Timely net dt (now - t) net.steps m0 = λ i called on. passes i on in
        let led = steps_led net sound.few_signals t now dt later small code net.steps m0 q 0 (drop (SIGNALS_AT + n) cells) (all_fit net sound accepted) (called_once net sound) timely
        (has_front code 0 rows (End ∷ []) has) (begins old ins t now cells count small stands) (begins_blocks old t now cells stands) in
        let x = led.comes in
        let cells1 = turned (turn_of n k code) x.turns q in
        let at1 = 0 + size_all rows in
        let back = has_back code 0 rows (End ∷ []) has in
        let final = with_progress 1 cells1 in
        let within = x.within in
        let size = x.there.sized in
        let bytes = led.stand.size in
        let f1 : length final ≡ length cells1 = length-set cells1 4 1 in
        let lr = ap length x.there.rest in
        let ld = length-drop (SIGNALS_AT + n) cells1 in
        let last : turned (turn_of n k code) (x.turns + 1) q ≡ final =
        turned_add (turn_of n k code) x.turns 1 q ∙ turn_is n k code cells1 at1 End x.there.there back.0 in
        let p1 : progress_of final ≡ 1 = get_or-set_same cells1 4 1 0 (omega arith) in
        let past : (j : ℕ) → SIGNALS_AT ≤ j → slice_index final j ≡ slice_index cells1 j = λ j from. get_or-set_other cells1 4 j 1 0 (λ p. omega arith) in
        let rest : drop (SIGNALS_AT + n) final ≡ led.blocks = drop_ext (SIGNALS_AT + n) final cells1 f1 (λ j from. past j (omega arith)) ∙ x.there.rest in
        record {
          turns = x.turns + 1;
          within = omega (arith, length-append rows (End ∷ []));
          running = λ j l. elim (cases_lt j x.turns) [
            | inl early ↦ x.running j early
            | inr end ↦
                let e : j ≡ x.turns = omega arith in
                ap (λ i. progress_of (turned (turn_of n k code) i q)) e ∙ x.there.running
          ];
          done = ap progress_of last ∙ p1;
          stands = subst (StandsC net new now) (sym last) (record {
            sized = omega arith;
            undriven = solves.undriven;
            signals = λ s l. past (SIGNALS_AT + s) (omega arith) ∙ x.there.signals s l ∙ ap bit (ends net sound old new ins dt stands.undriven solves s l);
            blocks = λ i l.
                let here : LoadsTo (Since now) (kind_at net i) (bytes_at i led.blocks) (block_in new i) =
                subst (LoadsTo (Since now) (kind_at net i) (bytes_at i led.blocks)) (sym (other-block net sound old ins dt new solves i l)) (led.stand.each i l) in
                subst (λ b. LoadsTo (Since now) (kind_at net i) b (block_in new i)) (sym (block_is (SIGNALS_AT + n) i final led.blocks rest)) here;
          });
        }

    pub keeps_meaning : (z : Sizes) → AreSizesOf net z → Keeps net (machine_c z (code_c net) (turns_c net)) (StandsC net)
    keeps_meaning z sizes =
        let n = signal_count net in
        let k = instance_count net in
        let code = code_c net in
        let same : turn_of n k code ≡ turn_c z code = λ x cells. carried_out ((sym sizes.signals) x) ((sym sizes.instances) x) (fetched code (offset_of cells)) cells in
        let blank_is : zeros (SIGNALS_AT + n + 16 * k) ≡ blank_c z = λ x. replicate (SIGNALS_AT + (sym sizes.signals) x + 16 * (sym sizes.instances) x) 0 in
        record {
          blank = subst (StandsC net (first_state net) 0) blank_is (blank_stands net (λ i. Since 0) SIGNALS_AT);
          scan = λ old new ins t now dt cells later small count passes stands solves.
              let s = scanned old new ins t now dt cells later small count passes stands solves in
              let q = begin_c now ins cells in
              let done : progress_of (turned (turn_c z code) s.turns q) ≡ 1 = subst (λ f. progress_of (turned f s.turns q) ≡ 1) same s.done in
              let held : StandsC net new now (turned (turn_c z code) s.turns q) = subst (λ f. StandsC net new now (turned f s.turns q)) same s.stands in
              record {
                turns = s.turns;
                within = omega (arith, s.within, turns_are net sound);
                runs = record {
                  running = λ j l. ap progress_said (subst (λ f. progress_of (turned f j q) ≡ 0) same (s.running j l));
                  done = ap progress_said done;
                  stands = held;
                  reports = holds_its_report net sound z sizes (λ i. Since now) old new ins dt SIGNALS_AT (turned (turn_c z code) s.turns q) solves held;
                };
              };
        }
