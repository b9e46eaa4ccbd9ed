-- A whole scan: equation code keeps the meaning.
use Rattle.std.proofs.Common.{◌≡◌, ℕ, suc, ◌+◌, ◌-◌, ◌*◌, ◌^◌, ◌<◌, ◌≤◌, Bool, false, List, [], ◌∷◌, ◌++◌, length, take, drop, map, refl, sym, ap, ◌∙◌, subst, inl, inr, arith, length-append, length-drop}
use Rattle.std.specs.Prelude.{slice_index, replicate}
use Rattle.std.specs.List.{flat_map}
use Rattle.std.specs.Int.{w32, from_be_bytes}
use Rattle.std.proofs.lemmas.Bool.{cases_lt}
use Rattle.std.proofs.lemmas.List.{get_or-map, length-map, get_or-replicate, get_or-take, get_or-drop, length-take-le}
use Rattle.ps_model.specs.declared.sizes.Sizes.{Sizes}
use Rattle.ps_model.specs.Budgets.{turns_b}
use Rattle.ps_model.specs.Kept.{Remains}
use Rattle.ps_model.specs.Meaning.{first_state}
use Rattle.ps_model.specs.Network.{Network, input_count, signal_count, instance_count, kind_at, is_driven}
use Rattle.ps_model.specs.Running.{begun}
use Rattle.ps_model.specs.Scanning.{State, Solves, signal_in, block_in}
use Rattle.ps_model.specs.Sized.{AreSizesOf}
use Rattle.ps_model.specs.Sound.{IsSound}
use Rattle.ps_model.specs.Typing.{Accepted}
use Rattle.ps_model.proofs.OneSolution.{other-block}
use Rattle.ps_machine.specs.Bytes.{bit, be4}
use Rattle.ps_machine.specs.Keeping.{Passes, KeepsExactly}
use Rattle.ps_machine.specs.Machines.{turned}
use Rattle.ps_machine.specs.Progressing.{progress_said}
use Rattle.ps_machine.specs.Standing.{LoadsTo, AreCellsOf, limit_in}
use Rattle.ps_machine.proofs.Blank.{zeros, blank_stands}
use Rattle.ps_machine.proofs.CalledOnce.{Timely, called_once}
use Rattle.ps_machine.proofs.Fitting.{step_fits, all_fit}
use Rattle.ps_machine.proofs.Instances.{bytes_at, block_is}
use Rattle.ps_machine.proofs.Phases.{turned_add}
use Rattle.ps_machine.proofs.Places.{length-replaced, index_within, index_after}
use Rattle.ps_machine.proofs.Reports.{holds_its_report}
use Rattle.ps_machine.proofs.Scans.{begun_input, begun_other, ends}
use Rattle.ps_eqvm.specs.declared.layout.TheConstants.{WORK_AT, WORK_CELLS, SIGNALS_AT}
use Rattle.ps_eqvm.specs.Acting.{after_last}
use Rattle.ps_eqvm.specs.Channel.{blank_b, progress_of}
use Rattle.ps_eqvm.specs.Code.{step_rows, network_rows, code_b}
use Rattle.ps_eqvm.specs.Plain.{Plain, IsPlain, IsSized, complement, plain_bytes, laid_out, parsed}
use Rattle.ps_eqvm.specs.Rows.{last_row}
use Rattle.ps_eqvm.specs.Channel.{machine_b}
use Rattle.ps_eqvm.specs.Stands.{StandsB}
use Rattle.ps_eqvm.specs.Turn.{turn_plain, turn_b, begin_plain, begin_b}
use Rattle.ps_eqvm.proofs.Again.{again, plain_again}
use Rattle.ps_eqvm.proofs.Complements.{complement_replicate}
use Rattle.ps_eqvm.proofs.Lengths.{begin_sized}
use Rattle.ps_eqvm.proofs.StaysPlain.{parsed_is, begun_is}
use Rattle.ps_eqgen.proofs.Counted.{turns_are, code_small, network_short}
use Rattle.ps_eqgen.proofs.Decoding.{HasAt, has_front, has_back, size_all, has_written}
use Rattle.ps_eqgen.proofs.Holding.{Holds, turn_is}
use Rattle.ps_eqgen.proofs.Stepping.{BlocksStand, steps_led}
use Rattle.ps_eqvm.proofs.StoredRuns.{stored_turn, stored_run, run_is}

-- ---- cells that stand for a state, plain and stored

-- plain cells hold the state w after a scan at time t
record StandsPlain (net : Network) (w : State) (t : ℕ) (p : Plain) : Type 0 where
  sized : IsSized (signal_count net) (instance_count net) p
  undriven : (s : ℕ) → input_count net ≤ s → is_driven net s ≡ false → signal_in w s ≡ false
  signals : (s : ℕ) → s < signal_count net → slice_index p.cells (WORK_CELLS + s) ≡ bit (signal_in w s)
  kept_time : p.last ≡ t
  blocks : BlocksStand net p.blocks (block_in w)

-- a signal among the cells, and among all bytes
signal_at : (n s : ℕ) (bytes : List ℕ) → s < n → slice_index (take (WORK_CELLS + n) (drop WORK_AT bytes)) (WORK_CELLS + s) ≡ slice_index bytes (SIGNALS_AT + s)
signal_at n s bytes low =
    let e : WORK_AT + (WORK_CELLS + s) ≡ SIGNALS_AT + s = omega arith in
    get_or-take (WORK_CELLS + n) (drop WORK_AT bytes) (WORK_CELLS + s) 0 (omega arith) ∙ get_or-drop WORK_AT bytes (WORK_CELLS + s) 0 ∙ ap (slice_index bytes) e

module _ (net : Network) where
  parsed_stands : (w : State) (t : ℕ) (cells : List ℕ) → StandsB net w t cells → StandsPlain net w t (parsed (signal_count net) cells)
  parsed_stands w t cells stands =
      let n = signal_count net in
      let bytes = complement cells in
      let all = stands.standing in
      let size = all.sized in
      let d1 = length-drop WORK_AT bytes in
      let d2 = length-drop (SIGNALS_AT + n) bytes in
      let many : length (drop (SIGNALS_AT + n) bytes) ≡ 16 * instance_count net = omega arith in
      record {
        sized = record { cells = length-take-le (WORK_CELLS + n) (drop WORK_AT bytes) (omega arith); blocks = many };
        undriven = all.undriven;
        signals = λ s l. signal_at n s bytes l ∙ all.signals s l;
        kept_time = stands.kept_time;
        blocks = record {
          size = many;
          each = λ i l.
              subst (λ b. LoadsTo (Remains (limit_in net i)) (kind_at net i) b (block_in w i)) (block_is (SIGNALS_AT + n) i bytes (drop (SIGNALS_AT + n) bytes) refl) (all.blocks i l);
        };
      }

  stored_stands : (w : State) (t : ℕ) (cells : List ℕ) → length (complement cells) ≡ SIGNALS_AT + signal_count net + 16 * instance_count net →
      StandsPlain net w t (parsed (signal_count net) cells) → StandsB net w t cells
  stored_stands w t cells size stands =
      let n = signal_count net in
      let bytes = complement cells in
      record {
        kept_time = stands.kept_time;
        standing = record {
          sized = size;
          undriven = stands.undriven;
          signals = λ s l. sym (signal_at n s bytes l) ∙ stands.signals s l;
          blocks = λ i l.
              subst (λ b. LoadsTo (Remains (limit_in net i)) (kind_at net i) b (block_in w i)) (sym (block_is (SIGNALS_AT + n) i bytes (drop (SIGNALS_AT + n) bytes) refl)) (stands.blocks.each i l);
        };
      }

  length-plain : (p : Plain) → IsSized (signal_count net) (instance_count net) p → length (plain_bytes p) ≡ SIGNALS_AT + signal_count net + 16 * instance_count net
  length-plain p sized =
      let both = length-append p.cells p.blocks in
      let c = sized.cells in
      let b = sized.blocks in
      let all : suc (suc (suc (suc (suc (suc (suc (suc (suc (suc (suc (suc (suc (length (p.cells ++ p.blocks)))))))))))))) ≡ SIGNALS_AT + signal_count net + 16 * instance_count net = omega arith in
      all

  laid_stands : (w : State) (t : ℕ) (p : Plain) → IsPlain p → StandsPlain net w t p → StandsB net w t (laid_out p)
  laid_stands w t p is stands =
      let n = signal_count net in
      let k = instance_count net in
      stored_stands w t (laid_out p) (ap length (plain_again p is) ∙ length-plain p stands.sized)
      (subst (StandsPlain net w t) (sym (again n k p is stands.sized)) stands)

-- ---- the cells at the start
blank_stored : (net : Network) → StandsB net (first_state net) 0 (replicate (SIGNALS_AT + signal_count net + 16 * instance_count net) 255)
blank_stored net =
    let size = SIGNALS_AT + signal_count net + 16 * instance_count net in
    let e : complement (replicate size 255) ≡ zeros size = complement_replicate size 255 in
    let h0 : slice_index (zeros size) 5 ≡ 0 = get_or-replicate size 5 0 0 (omega arith) in
    let h1 : slice_index (zeros size) 6 ≡ 0 = get_or-replicate size 6 0 0 (omega arith) in
    let h2 : slice_index (zeros size) 7 ≡ 0 = get_or-replicate size 7 0 0 (omega arith) in
    let h3 : slice_index (zeros size) 8 ≡ 0 = get_or-replicate size 8 0 0 (omega arith) in
    let time_is : be4 (zeros size) 5 ≡ 0 = λ x. from_be_bytes w32 (h0 x ∷ h1 x ∷ h2 x ∷ h3 x ∷ []) in
    record {
      kept_time = ap (λ b. be4 b 5) e ∙ time_is;
      standing =
          subst (AreCellsOf net (λ i. Remains (limit_in net i)) (first_state net) SIGNALS_AT) (sym e) (blank_stands net (λ i. Remains (limit_in net i)) SIGNALS_AT);
    }

module _ (net : Network) (sound : IsSound net) where
  begins : (old : State) (ins : List Bool) (t now : ℕ) (p : Plain) → length ins ≡ input_count net → StandsPlain net old t p →
      Holds (signal_count net) now (now - p.last) p.blocks (begin_plain now ins p) 0 (begun net old ins).signals
  begins old ins t now p count stands =
      let bytes = map bit ins in
      let size : length bytes ≡ input_count net = length-map ins bit ∙ count in
      let each = stands.sized.cells in
      let few : input_count net ≤ signal_count net = omega arith in
      record {
        sized = length-replaced p.cells WORK_CELLS bytes (omega arith) ∙ each;
        place = refl;
        running = refl;
        kept_time = refl;
        time = refl;
        signals = λ s l. elim (cases_lt s (input_count net)) [
          | inl low ↦
              index_within p.cells WORK_CELLS bytes s (omega arith) (omega arith) ∙ get_or-map bit ins s false 0 (omega arith)
              ∙ ap bit (sym (begun_input net old ins s low))
          | inr high ↦
              index_after p.cells WORK_CELLS bytes (WORK_CELLS + s) (omega arith) (omega arith) ∙ stands.signals s l
              ∙ ap bit (sym (begun_other net old ins s high))
        ];
        instances = refl;
      }

  -- a scan as the machine runs it over plain cells: so many turns, then done with this state
  record Scanned (p : Plain) (new : State) (now : ℕ) : Type 0 where
    running : (j : ℕ) → j < length (network_rows net) → (turned (turn_plain (signal_count net) (instance_count net) (code_b net)) j p).progress ≡ 0
    done : (turned (turn_plain (signal_count net) (instance_count net) (code_b net)) (length (network_rows net)) p).progress ≡ 1
    stands : StandsPlain net new now (turned (turn_plain (signal_count net) (instance_count net) (code_b net)) (length (network_rows net)) p)

  module _ (accepted : Accepted net) where
    scan_is : (old new : State) (ins : List Bool) (t now dt : ℕ) (p : Plain) → length ins ≡ input_count net → Passes old t now dt → StandsPlain net old t p → Solves net old ins dt new →
        Scanned (begin_plain now ins p) new now
    scan_is old new ins t now dt p count passes stands solves =
        let n = signal_count net in
        let k = instance_count net in
        let code = code_b net in
        let turn = turn_plain n k code in
        let passed = now - p.last in
        let rs = flat_map (step_rows net) net.steps in
        let q = begin_plain now ins p in
        let m0 = begun net old ins in
        let fit = all_fit net sound accepted in
        let has : HasAt code 0 (network_rows net) = has_written (network_rows net) [] (network_short net sound.few_signals sound.few_instances fit) in
        let timely : Timely net dt passed net.steps m0 = λ i called on. passes i on ∙ sym (ap (λ x. now - x) stands.kept_time) in
        let led = steps_led net sound.few_signals dt now passed code net.steps m0 q 0 p.blocks fit (called_once net sound) timely
        (has_front code 0 rs (last_row ∷ []) has) (begins old ins t now p count stands) (record { size = stands.blocks.size; each = stands.blocks.each }) in
        let p1 = turned turn (length rs) q in
        let at1 = 0 + size_all rs in
        let there = led.comes.there in
        let back = has_back code 0 rs (last_row ∷ []) has in
        let final = after_last (at1 + 1) p1 in
        let last : turn p1 ≡ final = turn_is n k code p1 at1 last_row there.place back.0 in
        let count_is : length (rs ++ last_row ∷ []) ≡ length rs + 1 = length-append rs (last_row ∷ []) in
        let all : turned turn (length (network_rows net)) q ≡ final = ap (λ j. turned turn j q) count_is ∙ turned_add turn (length rs) 1 q ∙ last in
        let bytes = led.stand.size in
        let held : StandsPlain net new now final = record {
          sized = record { cells = there.sized; blocks = ap length there.instances ∙ bytes };
          undriven = solves.undriven;
          signals = λ s l. there.signals s l ∙ ap bit (ends net sound old new ins dt stands.undriven solves s l);
          kept_time = there.kept_time;
          blocks = record {
            size = ap length there.instances ∙ bytes;
            each = λ i l.
                let says = Remains (limit_in net i) in
                let here : LoadsTo says (kind_at net i) (bytes_at i led.blocks) (block_in new i) =
                subst (LoadsTo says (kind_at net i) (bytes_at i led.blocks)) (sym (other-block net sound old ins dt new solves i l)) (led.stand.each i l) in
                subst (λ b. LoadsTo says (kind_at net i) (bytes_at i b) (block_in new i)) (sym there.instances) here;
          };
        } in
        record {
          running = λ j l. elim (cases_lt j (length rs)) [
            | inl early ↦ led.comes.running j early
            | inr end ↦
                let e : j ≡ length rs = omega arith in
                ap (λ i. (turned turn i q).progress) e ∙ there.running
          ];
          done = ap (λ (x : Plain). x.progress) all;
          stands = subst (StandsPlain net new now) (sym all) held;
        }

    pub keeps_exactly : (z : Sizes) → AreSizesOf net z → KeepsExactly net (machine_b z (code_b net) (turns_b net)) (StandsB net)
    keeps_exactly z sizes =
        let n = signal_count net in
        let k = instance_count net in
        let code = code_b net in
        let plain = turn_plain n k code in
        let small : length code < 2 ^ 32 = code_small net sound (step_fits net sound accepted) in
        let turns : length (network_rows net) ≡ turns_b net = turns_are net sound in
        let same : stored_turn n k code ≡ turn_b z code =
        λ x cells. laid_out (turn_plain ((sym sizes.signals) x) ((sym sizes.instances) x) code (parsed ((sym sizes.signals) x) cells)) in
        let blank_is : replicate (SIGNALS_AT + n + 16 * k) 255 ≡ blank_b z = λ x. replicate (SIGNALS_AT + (sym sizes.signals) x + 16 * (sym sizes.instances) x) 255 in
        record {
          blank = subst (StandsB net (first_state net) 0) blank_is (blank_stored net);
          scan = λ old new ins t now dt cells later early count passes stands solves.
              let p = parsed n cells in
              let held = parsed_stands net old t cells stands in
              let q = begin_plain now ins p in
              let s = scan_is old new ins t now dt p count passes held solves in
              let is : IsPlain q = begun_is now ins p early (parsed_is n cells) in
              let inputs : length ins ≤ n = omega arith in
              let sized = begin_sized n k now ins p inputs held.sized in
              let begin_is : laid_out q ≡ begin_b z now ins cells = λ x. laid_out (begin_plain now ins (parsed ((sym sizes.signals) x) cells)) in
              let run : (j : ℕ) → turned (turn_b z code) j (begin_b z now ins cells) ≡ laid_out (turned plain j q) =
              λ j. sym (λ x. turned (same x) j (begin_is x)) ∙ stored_run n k code small j q is sized in
              let said : (j : ℕ) → progress_of (turned (turn_b z code) j (begin_b z now ins cells)) ≡ (turned plain j q).progress =
              λ j.
              let low : (turned plain j q).progress < 256 = (run_is n k code small j q is).progress in
              let twice : 255 - (255 - (turned plain j q).progress) ≡ (turned plain j q).progress = omega arith in
              ap progress_of (run j) ∙ twice in
              let r = turned plain (length (network_rows net)) q in
              let final : StandsB net new now (laid_out r) = laid_stands net new now r (run_is n k code small (length (network_rows net)) q is) s.stands in
              let end_is : laid_out r ≡ turned (turn_b z code) (turns_b net) (begin_b z now ins cells) =
              sym (run (length (network_rows net))) ∙ ap (λ j. turned (turn_b z code) j (begin_b z now ins cells)) turns in
              let stood : StandsB net new now (turned (turn_b z code) (turns_b net) (begin_b z now ins cells)) = subst (StandsB net new now) end_is final in
              record {
                running = λ j l. ap progress_said (said j ∙ s.running j (omega (arith, turns)));
                done = ap progress_said (ap (λ j. progress_of (turned (turn_b z code) j (begin_b z now ins cells))) (sym turns) ∙ said (length (network_rows net)) ∙ s.done);
                stands = stood;
                reports =
                    holds_its_report net sound z sizes (λ i. Remains (limit_in net i)) old new ins dt SIGNALS_AT (complement (turned (turn_b z code) (turns_b net) (begin_b z now ins cells))) solves stood.standing;
              };
        }
