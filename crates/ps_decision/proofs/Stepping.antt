-- The machine follows the rows of the steps.
use Rattle.std.proofs.Common.{◌≡◌, ◌≢◌, ℕ, ◌+◌, ◌-◌, ◌*◌, ◌^◌, ◌<◌, ◌≤◌, Bool, true, false, cond, List, [], ◌∷◌, ◌++◌, length, map, refl, sym, ap, ◌∙◌, subst, inl, inr, arith, length-append}
use Rattle.std.specs.Prelude.{slice_index_or, nat_le, ◌||◌, ◌==◌}
use Rattle.std.specs.List.{list_any, range_with_len}
use Rattle.std.proofs.lemmas.Bool.{cases_lt, cases_eq, cond-true, cond-false, eq-eqb, ne_eqb}
use Rattle.std.proofs.lemmas.List.{get_or_past}
use Rattle.std.proofs.lemmas.List.FromFn.{length-map-range_with_len, get_or-map-range_with_len}
use Rattle.ps_model.specs.declared.kind.Kind.{Kind}
use Rattle.ps_model.specs.Formula.{Formula}
use Rattle.ps_model.specs.Action.{Action, Actual, assigns, calls}
use Rattle.ps_model.specs.Blocks.{Block_state, block, moved, outs, output_count}
use Rattle.ps_model.specs.Budgets.{boolean_count}
use Rattle.ps_model.specs.Kept.{Kept, StandsBy, Since, stepped_at}
use Rattle.ps_model.specs.Network.{Network, signal_count, instance_count, kind_at, first_pin, is_call_of}
use Rattle.ps_model.specs.Running.{Interim, done, exec}
use Rattle.ps_model.specs.Scanning.{pins_under, limit_of}
use Rattle.ps_model.specs.Stored.{IsKept, stored}
use Rattle.ps_model.proofs.Keeping.{go_on}
use Rattle.ps_model.proofs.Once.{none_after}
use Rattle.ps_model.proofs.Sixteen.{loads_loaded, step_kept}
use Rattle.ps_model.proofs.OutputLengths.{length-outs}
use Rattle.ps_machine.specs.Bytes.{replaced}
use Rattle.ps_machine.specs.Machines.{turned}
use Rattle.ps_machine.specs.Standing.{LoadsTo}
use Rattle.ps_machine.proofs.CalledOnce.{Once, Timely, once_after, timely_after}
use Rattle.ps_machine.proofs.CalledSignals.{called_signals}
use Rattle.ps_machine.proofs.Fine.{IsFine}
use Rattle.ps_machine.proofs.Fitting.{CallFits, StepFits, AllFit}
use Rattle.ps_machine.proofs.Instances.{bytes_at, bytes_at_same, bytes_at_other}
use Rattle.ps_machine.proofs.Places.{length-replaced}
use Rattle.ps_decision.specs.declared.layout.TheConstants.{PIN_CELLS}
use Rattle.ps_decision.specs.declared.row.Row.{Row}
use Rattle.ps_decision.specs.declared.row.Row.TheVariants.{Call}
use Rattle.ps_decision.specs.Code.{size_all, in_order, pins_rows, step_rows}
use Rattle.ps_decision.specs.Turn.{turn_of}
use Rattle.ps_decision.proofs.PlacedRows.{HasAt, has_front, has_back, size_all-append}
use Rattle.ps_decision.proofs.Holding.{Holds, signal_turn}
use Rattle.ps_decision.proofs.Leading.{Leads, stays, one_turn, leads_on, leads_as, assigned_leads, pins_lead}
use Rattle.ps_decision.proofs.CallTurn.{call_turn}

-- the time up to which the bytes of an instance speak: that of the last scan until it is called in this one
abbrev pub clock : Network → (t now : ℕ) → List Action → ℕ → ℕ
clock net t now rest i = cond (list_any (is_call_of net i) rest) t now

-- the bytes of the instances, while these steps are left
pub record BlocksStand (net : Network) (t now : ℕ) (rest : List Action) (blocks : List ℕ) (b : ℕ → Block_state) : Type 0 where
  pub size : length blocks ≡ 16 * instance_count net
  pub each : (i : ℕ) → i < instance_count net → LoadsTo (Since (clock net t now rest i)) (kind_at net i) (bytes_at i blocks) (b i)

module _ (net : Network) (few : signal_count net ≤ 4000) (t now dt : ℕ) (later : t ≤ now) (small : now < 2 ^ 32) (code : List ℕ) where
  -- the code ran, and the cells hold this memory
  pub record Led (cells : List ℕ) (rows : List Row) (at : ℕ) (rest : List Action) (m : Interim) : Type 0 where
    pub blocks : List ℕ
    pub comes : Leads (signal_count net) (instance_count net) now code blocks cells (length rows) (at + size_all rows) [] m.signals
    pub stand : BlocksStand net t now rest blocks m.blocks

  assign_led : (s : ℕ) (e : Formula) (rest : List Action) (m : Interim) (cells : List ℕ) (at : ℕ) (blocks : List ℕ) → s < signal_count net → IsFine (signal_count net) 34 e →
      HasAt code at (step_rows net (assigns s e) at) → Holds (signal_count net) now blocks cells at [] m.signals → BlocksStand net t now (assigns s e ∷ rest) blocks m.blocks →
      Led cells (step_rows net (assigns s e) at) at rest (done net dt (assigns s e) m)
  assign_led s e rest m cells at blocks low is has h stand =
      let n = signal_count net in
      let k = instance_count net in
      record {
        blocks = blocks;
        comes = assigned_leads n k few now blocks code [] m.signals s (λ b. []) (λ b j. cond (s == j) b (m.signals j))
            (λ b c place next here g. signal_turn n k few now blocks code c place s next [] m.signals (λ j. cond (s == j) b (m.signals j)) b here g low
            (cond-true (s == s) b (m.signals s) (eq-eqb s s refl)) (λ j other. cond-false (s == j) b (m.signals j) (ne_eqb s j (λ q. other (sym q)))))
            e cells at is.below is.full has h;
        stand = record { size = stand.size; each = stand.each };
      }

  -- the pin cells after the pins are set give every pin
  pins_are : (v : ℕ → Bool) (kind : Kind) (args : List Actual) (count : ℕ) → ((j : ℕ) → count ≤ j → pins_under v kind args j ≡ false) →
      (λ j. slice_index_or (map (pins_under v kind args) (range_with_len 0 count)) j false) ≡ pins_under v kind args
  pins_are v kind args count past =
      let each : (j : ℕ) → slice_index_or (map (pins_under v kind args) (range_with_len 0 count)) j false ≡ pins_under v kind args j =
      λ j. elim (cases_lt j count) [
        | inl low ↦ get_or-map-range_with_len (pins_under v kind args) 0 count j j false low (omega arith)
        | inr high ↦ get_or_past (map (pins_under v kind args) (range_with_len 0 count)) j false (omega (arith, length-map-range_with_len (pins_under v kind args) 0 count)) ∙ sym (past j high)
      ] in
      λ x j. each j x

  call_led : (i : ℕ) (args : List Actual) (rest : List Action) (m : Interim) (cells : List ℕ) (at : ℕ) (blocks : List ℕ) → CallFits net i args → Once net (calls i args ∷ rest) →
      ((m.blocks i).code ≢ 0 → dt ≡ now - t) → HasAt code at (step_rows net (calls i args) at) → Holds (signal_count net) now blocks cells at [] m.signals →
      BlocksStand net t now (calls i args ∷ rest) blocks m.blocks → Led cells (step_rows net (calls i args) at) at rest (done net dt (calls i args) m)
  call_led i args rest m cells at blocks fits once timely has h stand =
      let n = signal_count net in
      let k = instance_count net in
      let kind = kind_at net i in
      let limit = limit_of kind args in
      let o = first_pin net i in
      let pins = pins_under m.signals kind args in
      let count = boolean_count kind in
      let cp = pins_rows kind args at in
      let call = Call i (block kind).number o limit in
      let m' = done net dt (calls i args) m in
      let list = map pins (range_with_len 0 count) in
      let many : length list ≡ count = length-map-range_with_len pins 0 count in
      let some : count ≤ PIN_CELLS = fits.few in
      let x = pins_lead n k few now blocks code m.signals kind args count 0 cells at [] refl (omega arith) fits.pins (has_front code at cp (call ∷ []) has) h in
      let cells1 = turned (turn_of n k code) x.turns cells in
      let at1 = at + size_all cp in
      let back = has_back code at cp (call ∷ []) has in
      let within = fits.within in
      let size = stand.size in
      let space : 16 * i + 16 ≤ length blocks = omega arith in
      let here : is_call_of net i (calls i args) ≡ true = eq-eqb i i refl in
      let early : clock net t now (calls i args ∷ rest) i ≡ t = ap (λ b. cond (b || list_any (is_call_of net i) rest) t now) here in
      let sb : LoadsTo (Since t) kind (bytes_at i blocks) (m.blocks i) = subst (λ c. LoadsTo (Since c) kind (bytes_at i blocks) (m.blocks i)) early (stand.each i within) in
      let kept : Kept = sb.kept in
      let k' : Kept = stepped_at kind limit pins now kept in
      let b' = moved kind limit pins dt (m.blocks i) in
      let goes : StandsBy (Since now) k' b' = go_on kind limit pins t now dt kept (m.blocks i) later sb.stands timely in
      let held_kept : IsKept kind k' = step_kept kind pins (nat_le limit (now - kept.timer)) now kept.timer kept sb.loads.kept small sb.loads.kept.timer in
      let blocks' = replaced blocks (16 * i) (stored k') in
      let same_pins = pins_are m.signals kind args count (fits.past m.signals) in
      let k1 : Kept = stepped_at kind limit (λ j. slice_index_or list j false) now kept in
      let turn1 = call_turn n k now blocks code cells1 at1 i o limit kind list m.signals kept back.0 x.there many within
      (length-outs kind k1.code k1.mode) fits.room space (loads_loaded kind (bytes_at i blocks) kept sb.loads) in
      let turn2 : Holds n now blocks' (turn_of n k code cells1) (at1 + 10) [] (called_signals o (output_count kind) (outs kind k'.code k'.mode) m.signals) =
      subst (λ (p : ℕ → Bool). Holds n now (replaced blocks (16 * i) (stored (stepped_at kind limit p now kept))) (turn_of n k code cells1) (at1 + 10) []
      (called_signals o (output_count kind) (outs kind (stepped_at kind limit p now kept).code (stepped_at kind limit p now kept).mode) m.signals)) same_pins turn1 in
      let os_are : outs kind k'.code k'.mode ≡ outs kind b'.code b'.mode = λ z. outs kind (goes.code z) (goes.mode z) in
      let v_is : called_signals o (output_count kind) (outs kind k'.code k'.mode) m.signals ≡ m'.signals =
      ap (λ os. called_signals o (output_count kind) os m.signals) os_are in
      let turn3 : Holds n now blocks' (turn_of n k code cells1) (at1 + 10) [] m'.signals = subst (Holds n now blocks' (turn_of n k code cells1) (at1 + 10) []) v_is turn2 in
      let y = one_turn n k now code blocks blocks' cells1 at1 (at1 + 10) list [] m.signals m'.signals x.there turn3 in
      let el : length cp + 1 ≤ length (cp ++ call ∷ []) = omega (arith, length-append cp (call ∷ [])) in
      let ep : at1 + 10 ≡ at + size_all (cp ++ call ∷ []) = omega (arith, size_all-append cp (call ∷ [])) in
      record {
        blocks = blocks';
        comes = leads_as n k now code blocks' cells _ _ _ _ [] [] m'.signals el ep refl (leads_on n k now code blocks blocks' cells (length cp) 1 _ _ list [] m.signals m'.signals x y);
        stand = record {
          size = length-replaced blocks (16 * i) (stored k') space ∙ size;
          each = λ j low. elim (cases_eq i j) [
            | inl same ↦
                let over : list_any (is_call_of net i) rest ≡ false = none_after (is_call_of net i) (calls i args ∷ []) rest (once i) (ap (λ b. b || false) here) in
                let at_now : clock net t now rest i ≡ now = ap (λ b. cond b t now) over in
                let mine : LoadsTo (Since now) kind (bytes_at i blocks') b' = record {
                  kept = k';
                  loads = record { kept = held_kept; bytes_are = bytes_at_same blocks (stored k') i space refl };
                  stands = goes;
                } in
                let timed : LoadsTo (Since (clock net t now rest i)) kind (bytes_at i blocks') b' = subst (λ c. LoadsTo (Since c) kind (bytes_at i blocks') b') (sym at_now) mine in
                let placed : LoadsTo (Since (clock net t now rest i)) kind (bytes_at i blocks') (m'.blocks i) =
                subst (LoadsTo (Since (clock net t now rest i)) kind (bytes_at i blocks')) (sym (cond-true (i == i) b' (m.blocks i) here)) timed in
                subst (λ q. LoadsTo (Since (clock net t now rest q)) (kind_at net q) (bytes_at q blocks') (m'.blocks q)) same placed
            | inr other ↦
                let off : (i == j) ≡ false = ne_eqb i j other in
                let kept_clock : clock net t now (calls i args ∷ rest) j ≡ clock net t now rest j = ap (λ b. cond (b || list_any (is_call_of net j) rest) t now) off in
                let was : LoadsTo (Since (clock net t now rest j)) (kind_at net j) (bytes_at j blocks) (m.blocks j) =
                subst (λ c. LoadsTo (Since c) (kind_at net j) (bytes_at j blocks) (m.blocks j)) kept_clock (stand.each j low) in
                subst (LoadsTo (Since (clock net t now rest j)) (kind_at net j) (bytes_at j blocks')) (sym (cond-false (i == j) b' (m.blocks j) off))
                (subst (λ b. LoadsTo (Since (clock net t now rest j)) (kind_at net j) b (m.blocks j)) (sym (bytes_at_other blocks (stored k') i j space refl (λ e. other (sym e)))) was)
          ];
        };
      }

  step_led : (a : Action) (rest : List Action) (m : Interim) (cells : List ℕ) (at : ℕ) (blocks : List ℕ) → StepFits net a → Once net (a ∷ rest) → Timely net dt (now - t) (a ∷ rest) m →
      HasAt code at (step_rows net a at) → Holds (signal_count net) now blocks cells at [] m.signals → BlocksStand net t now (a ∷ rest) blocks m.blocks →
      Led cells (step_rows net a at) at rest (done net dt a m)
  step_led (assigns s e) rest m cells at blocks fits once timely has h stand = assign_led s e rest m cells at blocks fits.0 fits.1 has h stand
  step_led (calls i args) rest m cells at blocks fits once timely has h stand =
      call_led i args rest m cells at blocks fits once (λ on. timely i (ap (λ b. b || list_any (is_call_of net i) rest) (eq-eqb i i refl)) on) has h stand

  -- the steps in order leave the memory of `exec`
  pub steps_led : (rest : List Action) (m : Interim) (cells : List ℕ) (at : ℕ) (blocks : List ℕ) → AllFit net rest → Once net rest → Timely net dt (now - t) rest m →
      HasAt code at (in_order (step_rows net) rest at) → Holds (signal_count net) now blocks cells at [] m.signals → BlocksStand net t now rest blocks m.blocks →
      Led cells (in_order (step_rows net) rest at) at [] (exec net dt rest m)
  unfolding exec
  steps_led [] m cells at blocks fits once timely has h stand =
      let n = signal_count net in
      let k = instance_count net in
      let ep : at ≡ at + 0 = omega arith in
      record {
        blocks = blocks;
        comes = leads_as n k now code blocks cells 0 0 at (at + 0) [] [] m.signals (omega arith) ep refl (stays n k now code blocks cells at [] m.signals h);
        stand = stand;
      }
  steps_led (a ∷ rest) m cells at blocks fits once timely has h stand =
      let n = signal_count net in
      let k = instance_count net in
      let ra = step_rows net a at in
      let at1 = at + size_all ra in
      let rr = in_order (step_rows net) rest at1 in
      let x = step_led a rest m cells at blocks fits.0 once timely (has_front code at ra rr has) h stand in
      let cells1 = turned (turn_of n k code) x.comes.turns cells in
      let y = steps_led rest (done net dt a m) cells1 at1 x.blocks fits.1 (once_after net a rest once) (timely_after net dt (now - t) a rest m once timely) (has_back code at ra rr has) x.comes.there x.stand in
      let el : length ra + length rr ≤ length (ra ++ rr) = omega (arith, length-append ra rr) in
      let ep : at1 + size_all rr ≡ at + size_all (ra ++ rr) = omega (arith, size_all-append ra rr) in
      record {
        blocks = y.blocks;
        comes = leads_as n k now code y.blocks cells _ _ _ _ [] [] (exec net dt rest (done net dt a m)).signals el ep refl
            (leads_on n k now code x.blocks y.blocks cells (length ra) (length rr) _ _ [] [] (done net dt a m).signals (exec net dt rest (done net dt a m)).signals x.comes y.comes);
        stand = y.stand;
      }
