-- The machine follows the rows of the steps.
use Rattle.std.proofs.Common.{◌≡◌, ◌≢◌, ℕ, ◌+◌, ◌-◌, ◌*◌, ◌^◌, ◌<◌, ◌≤◌, true, List, [], ◌∷◌, ◌++◌, length, refl, sym, ap, ◌∙◌, subst, inl, inr, arith, length-append, Some}
use Rattle.std.specs.Prelude.{◌||◌, ◌==◌}
use Rattle.std.specs.List.{list_any, flat_map}
use Rattle.std.proofs.lemmas.Bool.{cases_eq, cond-true, cond-false, eq-eqb, ne_eqb}
use Rattle.ps_model.specs.Formula.{Formula, value}
use Rattle.ps_model.specs.Action.{Action, Actual, assigns, calls}
use Rattle.ps_model.specs.Blocks.{Block_state, moved, outs, output_count}
use Rattle.ps_model.specs.Budgets.{boolean_count}
use Rattle.ps_model.specs.Kept.{Kept, StandsBy, Remains, counted_down}
use Rattle.ps_model.specs.Network.{Network, signal_count, instance_count, kind_at, first_pin, is_call_of}
use Rattle.ps_model.specs.Running.{Interim, done, exec}
use Rattle.ps_model.specs.Scanning.{pins_under, limit_of}
use Rattle.ps_model.specs.Stored.{IsKept, stored, loaded}
use Rattle.ps_model.proofs.Keeping.{count_down}
use Rattle.ps_model.proofs.Sixteen.{loads_loaded, step_kept}
use Rattle.ps_machine.specs.Bytes.{bit, replaced}
use Rattle.ps_machine.specs.Machines.{turned}
use Rattle.ps_machine.specs.Standing.{LoadsTo, limit_in}
use Rattle.ps_machine.proofs.CalledOnce.{Once, Timely, once_after, timely_after}
use Rattle.ps_machine.proofs.CalledSignals.{called_signals}
use Rattle.ps_machine.proofs.Fine.{IsFine}
use Rattle.ps_machine.proofs.Fitting.{CallFits, StepFits, AllFit}
use Rattle.ps_machine.proofs.Instances.{bytes_at, bytes_at_same, bytes_at_other}
use Rattle.ps_machine.proofs.Places.{length-replaced}
use Rattle.ps_eqvm.specs.declared.layout.TheConstants.{WORK_CELLS}
use Rattle.ps_eqvm.specs.Plain.{Plain}
use Rattle.ps_eqvm.specs.Rows.{EquationRow, set_row, size_of}
use Rattle.ps_eqvm.specs.Acting.{with_cell, settled}
use Rattle.ps_eqvm.specs.Turn.{turn_plain}
use Rattle.ps_eqvm.specs.Code.{operand_at, expression_rows, operand_of_pin, pins_rows, call_row, step_rows}
use Rattle.ps_model.proofs.OutputLengths.{length-outs}
use Rattle.ps_eqgen.proofs.Calling.{block_goes, settled_holds}
use Rattle.ps_eqgen.proofs.Decoding.{HasAt, has_front, has_back, size_all, size_all-append}
use Rattle.ps_eqgen.proofs.Holding.{Holds, signal_operand, turn_is, set_goes, signal_put}
use Rattle.ps_eqgen.proofs.Placing.{Comes, stays, one_turn, comes_on, comes_as, expression_placed, pins_placed}

-- the bytes of the instances hold these block states, with the time that remains of the limit of each
pub record BlocksStand (net : Network) (blocks : List ℕ) (b : ℕ → Block_state) : Type 0 where
  pub size : length blocks ≡ 16 * instance_count net
  pub each : (i : ℕ) → i < instance_count net → LoadsTo (Remains (limit_in net i)) (kind_at net i) (bytes_at i blocks) (b i)

module _ (net : Network) (few : signal_count net ≤ 4000) (dt last passed : ℕ) (code : List ℕ) where
  -- the rows ran, and the cells hold this memory
  pub record Led (p : Plain) (rows : List EquationRow) (at : ℕ) (m : Interim) : Type 0 where
    pub blocks : List ℕ
    pub comes : Comes (signal_count net) (instance_count net) last passed code blocks p (length rows) (at + size_all rows) 0 m.signals
    pub stand : BlocksStand net blocks m.blocks

  assign_led : (t : ℕ) (e : Formula) (m : Interim) (p : Plain) (at : ℕ) (blocks : List ℕ) → t < signal_count net → IsFine (signal_count net) 34 e → HasAt code at (step_rows net (assigns t e)) →
      Holds (signal_count net) last passed blocks p at m.signals → BlocksStand net blocks m.blocks → Led p (step_rows net (assigns t e)) at (done net dt (assigns t e) m)
  assign_led t e m p at blocks low is has h stand =
      let n = signal_count net in
      let k = instance_count net in
      let turn = turn_plain n k code in
      let re = expression_rows 0 e in
      let row = set_row t (operand_at 0 e) in
      let v' = (done net dt (assigns t e) m).signals in
      let b = value m.signals e in
      let x = expression_placed n k few last passed code blocks m.signals e 34 0 p at is (omega arith) (has_front code at re (row ∷ []) has) h in
      let p1 = turned turn (length re) p in
      let at1 = at + size_all re in
      let back = has_back code at re (row ∷ []) has in
      let final = with_cell (WORK_CELLS + t) (bit b) (at1 + 5) p1 in
      let goes : turn p1 ≡ final = turn_is n k code p1 at1 row x.comes.there.place back.0
      ∙ set_goes n k t (operand_at 0 e) (WORK_CELLS + t) (at1 + 5) b p1 (signal_operand n t few low) x.reads in
      let held : Holds n last passed blocks final (at1 + 5) v' = signal_put n last passed blocks p1 at1 (at1 + 5) t b m.signals v' x.comes.there low
      (cond-true (t == t) b (m.signals t) (eq-eqb t t refl)) (λ s other. cond-false (t == s) b (m.signals s) (ne_eqb t s (λ q. other (sym q)))) in
      let held' : Holds n last passed blocks (turn p1) (at1 + 5) v' = subst (λ q. Holds n last passed blocks q (at1 + 5) v') (sym goes) held in
      let y = one_turn n k last passed code blocks blocks p1 at1 (at1 + 5) 0 m.signals v' x.comes.there held' (λ c l. absurd (omega arith)) in
      let el : length re + 1 ≡ length (re ++ row ∷ []) = sym (length-append re (row ∷ [])) in
      let ea : at1 + 5 ≡ at + size_all (re ++ row ∷ []) = omega (arith, size_all-append re (row ∷ [])) in
      record {
        blocks = blocks;
        comes = comes_as n k last passed code blocks p _ _ _ _ 0 v' el ea (comes_on n k last passed code blocks blocks p (length re) 1 _ _ 0 0 m.signals v' (omega arith) x.comes y);
        stand = record { size = stand.size; each = stand.each };
      }

  call_led : (i : ℕ) (args : List Actual) (m : Interim) (p : Plain) (at : ℕ) (blocks : List ℕ) → CallFits net i args → ((m.blocks i).code ≢ 0 → dt ≡ passed) → HasAt code at (step_rows net (calls i args)) →
      Holds (signal_count net) last passed blocks p at m.signals → BlocksStand net blocks m.blocks → Led p (step_rows net (calls i args)) at (done net dt (calls i args) m)
  call_led i args m p at blocks fits timely has h stand =
      let n = signal_count net in
      let k = instance_count net in
      let turn = turn_plain n k code in
      let kind = kind_at net i in
      let limit = limit_of kind args in
      let o = first_pin net i in
      let pins = pins_under m.signals kind args in
      let count = boolean_count kind in
      let rp = pins_rows kind args in
      let row = call_row net i args in
      let m' = done net dt (calls i args) m in
      let many : count ≤ 13 = fits.few in
      let x = pins_placed n k few last passed code blocks m.signals kind args count 0 p at fits.pins (omega arith) (has_front code at rp (row ∷ []) has) h in
      let p1 = turned turn (length rp) p in
      let at1 = at + size_all rp in
      let next = at1 + size_of row in
      let back = has_back code at rp (row ∷ []) has in
      let there = x.comes.there in
      let within = fits.within in
      let sb = stand.each i within in
      let kept : Kept = sb.kept in
      let loads1 : loaded kind (bytes_at i p1.blocks) ≡ Some kept = ap (λ b. loaded kind (bytes_at i b)) there.instances ∙ loads_loaded kind (bytes_at i blocks) kept sb.loads in
      let k' : Kept = counted_down kind limit pins passed kept in
      let b' = moved kind limit pins dt (m.blocks i) in
      let stands' : StandsBy (Remains limit) k' b' =
      count_down kind limit pins passed dt kept (m.blocks i) (subst (λ l. StandsBy (Remains l) kept (m.blocks i)) fits.limit_is sb.stands) (λ on. sym (timely on)) in
      let small : kept.timer < 2 ^ 32 = sb.loads.kept.timer in
      let left : kept.timer - passed < 2 ^ 32 = omega arith in
      let held_kept : IsKept kind k' = step_kept kind pins (kept.timer - passed == 0) limit (kept.timer - passed) kept sb.loads.kept fits.limit left in
      let final = settled i o kind k' next p1 in
      let goes : turn p1 ≡ final = turn_is n k code p1 at1 row there.place back.0
      ∙ block_goes n k i o limit next kind (operand_of_pin kind args) pins p1 kept within fits.room (λ j low. x.reads j (omega arith) (omega arith)) (fits.past m.signals) loads1
      ∙ ap (λ t. settled i o kind (counted_down kind limit pins t kept) next p1) there.time in
      let blocks' = replaced blocks (16 * i) (stored k') in
      let held0 = settled_holds n last passed blocks p1 at1 i o next kind k' (output_count kind) m.signals there (length-outs kind k'.code k'.mode) fits.room in
      let held : Holds n last passed blocks' final next m'.signals =
      subst (λ mode. Holds n last passed blocks' final next (called_signals o (output_count kind) (outs kind b'.code mode) m.signals)) stands'.mode
      (subst (λ q. Holds n last passed blocks' final next (called_signals o (output_count kind) (outs kind q k'.mode) m.signals)) stands'.code held0) in
      let held' : Holds n last passed blocks' (turn p1) next m'.signals = subst (λ q. Holds n last passed blocks' q next m'.signals) (sym goes) held in
      let y = one_turn n k last passed code blocks blocks' p1 at1 next 0 m.signals m'.signals there held' (λ c l. absurd (omega arith)) in
      let el : length rp + 1 ≡ length (rp ++ row ∷ []) = sym (length-append rp (row ∷ [])) in
      let ea : next ≡ at + size_all (rp ++ row ∷ []) = omega (arith, size_all-append rp (row ∷ [])) in
      let size = stand.size in
      let space : 16 * i + 16 ≤ length blocks = omega arith in
      record {
        blocks = blocks';
        comes = comes_as n k last passed code blocks' p _ _ _ _ 0 m'.signals el ea (comes_on n k last passed code blocks blocks' p (length rp) 1 _ _ 0 0 m.signals m'.signals (omega arith) x.comes y);
        stand = record {
          size = length-replaced blocks (16 * i) (stored k') space ∙ size;
          each = λ j low. elim (cases_eq i j) [
            | inl same ↦
                let mine : LoadsTo (Remains (limit_in net i)) kind (bytes_at i blocks') b' = record {
                  kept = k';
                  loads = record { kept = held_kept; bytes_are = bytes_at_same blocks (stored k') i space refl };
                  stands = subst (λ l. StandsBy (Remains l) k' b') (sym fits.limit_is) stands';
                } in
                let here : LoadsTo (Remains (limit_in net i)) kind (bytes_at i blocks') (m'.blocks i) =
                subst (LoadsTo (Remains (limit_in net i)) kind (bytes_at i blocks')) (sym (cond-true (i == i) b' (m.blocks i) (eq-eqb i i refl))) mine in
                subst (λ q. LoadsTo (Remains (limit_in net q)) (kind_at net q) (bytes_at q blocks') (m'.blocks q)) same here
            | inr other ↦
                subst (LoadsTo (Remains (limit_in net j)) (kind_at net j) (bytes_at j blocks')) (sym (cond-false (i == j) b' (m.blocks j) (ne_eqb i j other)))
                (subst (λ b. LoadsTo (Remains (limit_in net j)) (kind_at net j) b (m.blocks j)) (sym (bytes_at_other blocks (stored k') i j space refl (λ e. other (sym e)))) (stand.each j low))
          ];
        };
      }

  step_led : (a : Action) (m : Interim) (p : Plain) (at : ℕ) (blocks : List ℕ) → StepFits net a → ((i : ℕ) → is_call_of net i a ≡ true → (m.blocks i).code ≢ 0 → dt ≡ passed) →
      HasAt code at (step_rows net a) → Holds (signal_count net) last passed blocks p at m.signals → BlocksStand net blocks m.blocks → Led p (step_rows net a) at (done net dt a m)
  step_led (assigns t e) m p at blocks fits timely has h stand = assign_led t e m p at blocks fits.0 fits.1 has h stand
  step_led (calls i args) m p at blocks fits timely has h stand = call_led i args m p at blocks fits (timely i (eq-eqb i i refl)) has h stand

  -- the steps in order leave the memory of `exec`
  pub steps_led : (rest : List Action) (m : Interim) (p : Plain) (at : ℕ) (blocks : List ℕ) → AllFit net rest → Once net rest → Timely net dt passed rest m → HasAt code at (flat_map (step_rows net) rest) →
      Holds (signal_count net) last passed blocks p at m.signals → BlocksStand net blocks m.blocks → Led p (flat_map (step_rows net) rest) at (exec net dt rest m)
  unfolding exec
  steps_led [] m p at blocks fits once timely has h stand =
      let n = signal_count net in
      let k = instance_count net in
      let ea : at ≡ at + 0 = omega arith in
      record {
        blocks = blocks;
        comes = comes_as n k last passed code blocks p 0 0 at (at + 0) 0 m.signals refl ea (stays n k last passed code blocks p at 0 m.signals h);
        stand = stand;
      }
  steps_led (a ∷ rest) m p at blocks fits once timely has h stand =
      let n = signal_count net in
      let k = instance_count net in
      let ra = step_rows net a in
      let rr = flat_map (step_rows net) rest in
      let now : (i : ℕ) → is_call_of net i a ≡ true → (m.blocks i).code ≢ 0 → dt ≡ passed = λ i here on. timely i (ap (λ b. b || list_any (is_call_of net i) rest) here) on in
      let x = step_led a m p at blocks fits.0 now (has_front code at ra rr has) h stand in
      let p1 = turned (turn_plain n k code) (length ra) p in
      let y = steps_led rest (done net dt a m) p1 (at + size_all ra) x.blocks fits.1 (once_after net a rest once) (timely_after net dt passed a rest m once timely) (has_back code at ra rr has) x.comes.there x.stand in
      let el : length ra + length rr ≡ length (ra ++ rr) = sym (length-append ra rr) in
      let ea : at + size_all ra + size_all rr ≡ at + size_all (ra ++ rr) = omega (arith, size_all-append ra rr) in
      record {
        blocks = y.blocks;
        comes = comes_as n k last passed code y.blocks p _ _ _ _ 0 (exec net dt rest (done net dt a m)).signals el ea
            (comes_on n k last passed code x.blocks y.blocks p (length ra) (length rr) _ _ 0 0 (done net dt a m).signals (exec net dt rest (done net dt a m)).signals (omega arith) x.comes y.comes);
        stand = y.stand;
      }
