-- A run that is tried, scan after scan.
use Rattle.std.proofs.Common.{◌≡◌, ◌<◌, ◌≤◌, ◌+◌, ℕ, zero, suc, Bool, true, false, List, [], ◌∷◌, length, get_or, drop, map, refl, sym, ap, subst, ◌∙◌, ◌&&◌, arith}
use Rattle.std.specs.Prelude.{slice_index_or}
use Rattle.std.proofs.lemmas.List.{drop_more}
use Rattle.ps_model.specs.declared.report.Diag.{Diag}
use Rattle.ps_model.specs.Blocks.{Block_state, idle}
use Rattle.ps_model.specs.Meaning.{Item, Past, diag_in, last, nothing, old_state, scan}
use Rattle.ps_model.specs.Network.{Network}
use Rattle.ps_model.specs.Scanning.{State}
use Rattle.ps_reach.specs.Asking.{Pins, Point, at_first, behind_scan, no_pins, pins_read, point_of}
use Rattle.ps_reach.specs.Promised.{EndsMeeting, last_meets}
use Rattle.ps_reach.specs.Telling.{scans_at}
use Rattle.ps_reach.specs.declared.asked.Asked.{Asked}
use Rattle.ps_cut.specs.Trying.{Ends, GoesOn, IsAt, StandsAt, ended}
use Rattle.ps_cut.specs.declared.moment.Moment.{Moment}
use Rattle.ps_cut.specs.declared.trying.Trial.{Trial}

-- the code that is reported of an instance
code_at : (blocks : List Block_state) (i : ℕ) → get_or (map (λ (d : Diag). d.code) (map (λ (b : Block_state). diag_in b.code) blocks)) i 0 ≡ (slice_index_or blocks i idle).code
code_at [] i = refl
code_at (b ∷ blocks) zero = refl
code_at (b ∷ blocks) (suc i) = code_at blocks i

-- what is kept of a scan
pub after_scan : (net : Network) (p : Point) (old m : Moment) (state : State) → IsAt net old p → m.is_begun ≡ true → m.earlier.items ≡ old.signals.items →
    m.signals.items ≡ state.signals → m.codes.items ≡ map (λ (d : Diag). d.code) (map (λ (b : Block_state). diag_in b.code) state.blocks) → IsAt net m (behind_scan net p state)
after_scan net p old m state at begun earlier signals codes = record {
  begun = begun;
  signals = signals;
  codes = λ i. ap (λ xs. slice_index_or xs i 0) codes ∙ code_at state.blocks i;
  pins = λ i j.
      let before = earlier ∙ at.signals in
      λ x. begun x && pins_read net (before x) (signals x) i j;
}

-- ---- lists of scans
drop_none : {A : Type 0} (xs : List A) (k : ℕ) → length xs ≤ k → drop k xs ≡ []
drop_none [] zero few = refl
drop_none [] (suc k) few = refl
drop_none (x ∷ xs) zero few = absurd (omega arith)
drop_none (x ∷ xs) (suc k) few = drop_none xs k (omega arith)

module _ (net : Network) (q : Asked) (rule : ℕ) where
  ended_at_first : (p : Point) (items : List Item) (ws : List State) → ended net q rule false p items ws ≡ last_meets net q rule p items ws
  ended_at_first p [] ws = refl
  ended_at_first p (item ∷ items) ws = refl

  -- one scan before the others
  one_more : (met met' : Bool) (past : Past) (pins : Pins) (now : ℕ) (ins : List Bool) (t : Trial) (items : List Item) →
      (g : GoesOn net q rule past pins now ins met' t) → Ends net q rule met' (last now g.state) (pins_read net (old_state net past).signals g.state.signals) items →
      Ends net q rule met past pins (scan now ins ∷ items)
  one_more met met' past pins now ins t items g ends = record {
    states = g.state ∷ ends.states;
    runs = (g.solves, ends.runs);
    come = (g.comes, ends.come);
    meets_it = judged items ends.states ∙ ends.meets_it;
  }
    where
      judged : (items : List Item) (ws : List State) → last_meets net q rule (point_of net past pins) (scan now ins ∷ items) (g.state ∷ ws)
          ≡ ended net q rule met' (behind_scan net (point_of net past pins) g.state) items ws
      judged [] ws = g.meets_it
      judged (item ∷ items) ws = refl

  -- so many of these scans were made, and whether the last of the others meets the rule decides
  pub record Tried (scans : List (List Bool)) (k : ℕ) (met : Bool) (t : Trial) : Type 0 where
    pub past : Past
    pub pins : Pins
    pub stands : StandsAt net q past pins t
    pub rest : Ends net q rule met past pins (scans_at t.now q.every (drop k scans)) → EndsMeeting net q rule (scans_at 0 q.every scans)

  pub begins : (scans : List (List Bool)) (t : Trial) → StandsAt net q nothing no_pins t → t.now ≡ 0 → Tried scans 0 false t
  begins scans t stands time = record {
    past = nothing;
    pins = no_pins;
    stands = stands;
    rest = λ ends.
        let from = subst (λ n. Ends net q rule false nothing no_pins (scans_at n q.every scans)) time ends in
        record {
          states = from.states;
          means = from.runs;
          come = from.come;
          meets_it = sym (ended_at_first (at_first net) (scans_at 0 q.every scans) from.states) ∙ from.meets_it;
        };
  }

  pub goes_on : (scans : List (List Bool)) (k : ℕ) (met met' : Bool) (t t' : Trial) (ins : List Bool) → Tried scans k met t → k < length scans → get_or scans k [] ≡ ins →
      ((past : Past) (pins : Pins) → StandsAt net q past pins t → (t'.now ≡ t.now + q.every) × GoesOn net q rule past pins t.now ins met' t') → Tried scans (k + 1) met' t'
  goes_on scans k met met' t t' ins tried within is step =
      let goes = step tried.past tried.pins tried.stands in
      let g = goes.1 in
      let first : drop k scans ≡ ins ∷ drop (k + 1) scans = drop_more scans k [] within ∙ ap (λ xs. xs ∷ drop (k + 1) scans) is in
      record {
        past = last t.now g.state;
        pins = pins_read net (old_state net tried.past).signals g.state.signals;
        stands = g.stands;
        rest = λ ends.
            let from = subst (λ n. Ends net q rule met' (last t.now g.state) (pins_read net (old_state net tried.past).signals g.state.signals)
            (scans_at n q.every (drop (k + 1) scans))) goes.0 ends in
            tried.rest (subst (λ xs. Ends net q rule met tried.past tried.pins (scans_at t.now q.every xs)) (sym first)
            (one_more met met' tried.past tried.pins t.now ins t' (scans_at (t.now + q.every) q.every (drop (k + 1) scans)) g from));
      }

  pub tried_all : (scans : List (List Bool)) (k : ℕ) (met : Bool) (t : Trial) → Tried scans k met t → length scans ≤ k → met ≡ true → EndsMeeting net q rule (scans_at 0 q.every scans)
  tried_all scans k met t tried few on =
      tried.rest (subst (λ xs. Ends net q rule met tried.past tried.pins (scans_at t.now q.every xs)) (sym (drop_none scans k few))
      record { states = []; runs = refl; come = tt; meets_it = on })
