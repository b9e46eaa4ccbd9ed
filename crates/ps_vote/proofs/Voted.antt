-- What a vote says of the reports of the three seats.
use Rattle.std.proofs.Common.{◌⊎◌, inl, inr, ◌≡◌, ℕ, Bool, true, false, cond, List, length, Option, Some, None, refl, sym, ap, ◌∙◌, subst}
use Rattle.std.proofs.lemmas.Bool.{cases_Bool, false≢true}
use Rattle.ps_model.specs.declared.report.Report.{Report}
use Rattle.ps_model.specs.Fields.{first_difference}
use Rattle.ps_model.proofs.FieldPlaces.{equal_from_no_difference, no_difference_from_equal}
use Rattle.ps_machine.specs.Machines.{Machine}
use Rattle.ps_machine.specs.Outcomes.{Outcome, gives, lacks, GivesSized}
use Rattle.ps_machine.proofs.Sized.{outcome_sized}
use Rattle.ps_vote.specs.declared.seat.Seat.{Seat}
use Rattle.ps_vote.specs.declared.seat.Seat.TheVariants.{A, B, C}
use Rattle.ps_vote.specs.declared.seat.Vote.{Vote}
use Rattle.ps_vote.specs.declared.seat.Vote.TheVariants.{All, Two, Split}
use Rattle.ps_vote.specs.Worlds.{Machines, World_state, is_same, machine, channel}
use Rattle.ps_vote.specs.Votes.{report_of, report_in, is_nowhere, agree, vote_of, vote, given_with, report_given}
use Rattle.ps_vote.specs.Laws.{ThreeAreEqual, TwoAreEqual, VotesExactly}

-- a report that there is has these sizes
pub record HasSizes (outputs instances : ℕ) (o : Option Report) : Type 0 where
  pub outs : (r : Report) → o ≡ Some r → length r.outs ≡ outputs
  pub diags : (r : Report) → o ≡ Some r → length r.diags ≡ instances

read_from : (o : Outcome) (r : Report) → report_of o ≡ Some r → o ≡ gives r
read_from (gives q) r h = cc
read_from (lacks f) r h = absurd (cc)

pub report_sized : (m : Machine) (outputs instances : ℕ) (cells : List ℕ) → GivesSized m outputs instances → HasSizes outputs instances (report_in m cells)
report_sized m outputs instances cells sized =
    let s = outcome_sized m outputs instances cells sized in
    record { outs = λ r h. s.outs r (read_from _ r h); diags = λ r h. s.diags r (read_from _ r h) }

none_differs : (d : Option ℕ) → is_nowhere d ≡ true → d ≡ None
none_differs None h = refl
none_differs (Some f) h = absurd (cc)

agree_itself : (r : Report) → agree (Some r) (Some r) ≡ true
agree_itself r = ap is_nowhere (no_difference_from_equal r r refl)

all_three : (r : Report) → vote_of (Some r) (Some r) (Some r) ≡ All
all_three r = λ i. cond (agree_itself r i) (cond (agree_itself r i) All (Two C)) (cond (agree_itself r i) (Two B) (cond (agree_itself r i) (Two A) Split))

-- a vote that shares this report with at most one seat out
pub record Shares (seat : Seat) (v : Vote) (shared r : Report) : Type 0 where
  pub voted : (v ≡ All) ⊎ (v ≡ Two seat)
  pub is_given : shared ≡ r

module _ (outputs instances : ℕ) where
  -- reports that agree are equal
  agree_equal : (a b : Option Report) → HasSizes outputs instances a → HasSizes outputs instances b → agree a b ≡ true → (r : Report) × (a ≡ Some r) × (b ≡ Some r)
  agree_equal None b sa sb h = absurd (cc)
  agree_equal (Some r) None sa sb h = absurd (cc)
  agree_equal (Some r) (Some q) sa sb h =
      let same : r ≡ q = equal_from_no_difference r q (sa.outs r refl ∙ sym (sb.outs q refl)) (sa.diags r refl ∙ sym (sb.diags q refl)) (none_differs (first_difference r q) h) in
      (r, refl, ap Some (sym same))

  agree_with : (a : Option Report) (r : Report) → HasSizes outputs instances a → HasSizes outputs instances (Some r) → agree a (Some r) ≡ true → a ≡ Some r
  agree_with a r sa sr h = let e = agree_equal a (Some r) sa sr h in e.1 ∙ sym e.2

  -- where two seats have a report it is shared, and the third seat may be out
  a_out : (a : Option Report) (r : Report) → HasSizes outputs instances a → HasSizes outputs instances (Some r) → Shares A (vote_of a (Some r) (Some r)) (given_with (vote_of a (Some r) (Some r)) outputs instances a (Some r)) r
  a_out a r sa sr =
      elim (cases_Bool (agree a (Some r))) [
        | inl h ↦
            let e = agree_with a r sa sr h in
            let v : vote_of a (Some r) (Some r) ≡ All = ap (λ o. vote_of o (Some r) (Some r)) e ∙ all_three r in
            record { voted = inl v; is_given = (λ i. given_with (v i) outputs instances (e i) (Some r)) }
        | inr h ↦
            let v : vote_of a (Some r) (Some r) ≡ Two A = λ i. cond (h i) (cond (h i) All (Two C)) (cond (h i) (Two B) (cond (agree_itself r i) (Two A) Split)) in
            record { voted = inr v; is_given = ap (λ x. given_with x outputs instances a (Some r)) v }
      ]

  b_out : (b : Option Report) (r : Report) → Shares B (vote_of (Some r) b (Some r)) (given_with (vote_of (Some r) b (Some r)) outputs instances (Some r) b) r
  b_out b r =
      elim (cases_Bool (agree (Some r) b)) [
        | inl h ↦
            let v : vote_of (Some r) b (Some r) ≡ All = λ i. cond (h i) (cond (agree_itself r i) All (Two C)) (cond (agree_itself r i) (Two B) (cond (agree b (Some r)) (Two A) Split)) in
            record { voted = inl v; is_given = ap (λ x. given_with x outputs instances (Some r) b) v }
        | inr h ↦
            let v : vote_of (Some r) b (Some r) ≡ Two B = λ i. cond (h i) (cond (agree_itself r i) All (Two C)) (cond (agree_itself r i) (Two B) (cond (agree b (Some r)) (Two A) Split)) in
            record { voted = inr v; is_given = ap (λ x. given_with x outputs instances (Some r) b) v }
      ]

  c_out : (c : Option Report) (r : Report) → Shares C (vote_of (Some r) (Some r) c) (given_with (vote_of (Some r) (Some r) c) outputs instances (Some r) (Some r)) r
  c_out c r =
      let rest : Vote = cond (agree (Some r) c) (Two B) (cond (agree (Some r) c) (Two A) Split) in
      elim (cases_Bool (agree (Some r) c)) [
        | inl h ↦
            let v : vote_of (Some r) (Some r) c ≡ All = λ i. cond (agree_itself r i) (cond (h i) All (Two C)) rest in
            record { voted = inl v; is_given = ap (λ x. given_with x outputs instances (Some r) (Some r)) v }
        | inr h ↦
            let v : vote_of (Some r) (Some r) c ≡ Two C = λ i. cond (agree_itself r i) (cond (h i) All (Two C)) rest in
            record { voted = inr v; is_given = ap (λ x. given_with x outputs instances (Some r) (Some r)) v }
      ]

module _ (m : Machines) (outputs instances : ℕ) (sized : (seat : Seat) → GivesSized (machine seat m) outputs instances) where
  sizes_of : (seat : Seat) (x : World_state) → HasSizes outputs instances (report_in (machine seat m) (channel seat x).cells)
  sizes_of seat x = report_sized (machine seat m) outputs instances (channel seat x).cells (sized seat)

  -- a report that two seats have is released
  pub vote_shares : (seat : Seat) (x : World_state) (r : Report) → ((o : Seat) → is_same seat o ≡ false → report_in (machine o m) (channel o x).cells ≡ Some r) →
      Shares seat (vote m x) (report_given m outputs instances x) r
  vote_shares A x r h =
      let a = report_in m.a x.a.cells in
      let eb = h B refl in
      let ec = h C refl in
      let sr = subst (HasSizes outputs instances) eb (sizes_of B x) in
      subst (λ o. Shares A (vote_of a o (report_in m.c x.c.cells)) (given_with (vote_of a o (report_in m.c x.c.cells)) outputs instances a o) r) (sym eb)
      (subst (λ o. Shares A (vote_of a (Some r) o) (given_with (vote_of a (Some r) o) outputs instances a (Some r)) r) (sym ec)
      (a_out outputs instances a r (sizes_of A x) sr))
  vote_shares B x r h =
      let b = report_in m.b x.b.cells in
      subst (λ o. Shares B (vote_of o b (report_in m.c x.c.cells)) (given_with (vote_of o b (report_in m.c x.c.cells)) outputs instances o b) r) (sym (h A refl))
      (subst (λ o. Shares B (vote_of (Some r) b o) (given_with (vote_of (Some r) b o) outputs instances (Some r) b) r) (sym (h C refl))
      (b_out outputs instances b r))
  vote_shares C x r h =
      let c = report_in m.c x.c.cells in
      subst (λ o. Shares C (vote_of o (report_in m.b x.b.cells) c) (given_with (vote_of o (report_in m.b x.b.cells) c) outputs instances o (report_in m.b x.b.cells)) r) (sym (h A refl))
      (subst (λ o. Shares C (vote_of (Some r) o c) (given_with (vote_of (Some r) o c) outputs instances (Some r) o) r) (sym (h B refl))
      (c_out outputs instances c r))

  -- where all three have it the vote is All
  pub vote_all : (x : World_state) (r : Report) → ((o : Seat) → report_in (machine o m) (channel o x).cells ≡ Some r) → vote m x ≡ All
  vote_all x r h = (λ i. vote_of (h A i) (h B i) (h C i)) ∙ all_three r

  -- ---- Votes exactly.

  bits_all : (t u v : Bool) → cond t (cond u All (Two C)) (cond u (Two B) (cond v (Two A) Split)) ≡ All → (t ≡ true) × (u ≡ true)
  bits_all true true v h = (refl, refl)
  bits_all true false v h = absurd (cc)
  bits_all false true v h = absurd (cc)
  bits_all false false true h = absurd (cc)
  bits_all false false false h = absurd (cc)

  bits_c : (t u v : Bool) → cond t (cond u All (Two C)) (cond u (Two B) (cond v (Two A) Split)) ≡ Two C → (t ≡ true) × (u ≡ false)
  bits_c true true v h = absurd (cc)
  bits_c true false v h = (refl, refl)
  bits_c false true v h = absurd (cc)
  bits_c false false true h = absurd (cc)
  bits_c false false false h = absurd (cc)

  bits_b : (t u v : Bool) → cond t (cond u All (Two C)) (cond u (Two B) (cond v (Two A) Split)) ≡ Two B → (t ≡ false) × (u ≡ true)
  bits_b true true v h = absurd (cc)
  bits_b true false v h = absurd (cc)
  bits_b false true v h = (refl, refl)
  bits_b false false true h = absurd (cc)
  bits_b false false false h = absurd (cc)

  bits_a : (t u v : Bool) → cond t (cond u All (Two C)) (cond u (Two B) (cond v (Two A) Split)) ≡ Two A → (t ≡ false) × (v ≡ true)
  bits_a true true v h = absurd (cc)
  bits_a true false v h = absurd (cc)
  bits_a false true v h = absurd (cc)
  bits_a false false true h = (refl, refl)
  bits_a false false false h = absurd (cc)

  abbrev rep : Seat → World_state → Option Report
  rep seat x = report_in (machine seat m) (channel seat x).cells

  equal_seats : (s o : Seat) (x : World_state) → agree (rep s x) (rep o x) ≡ true → (r : Report) × (rep s x ≡ Some r) × (rep o x ≡ Some r)
  equal_seats s o x h = agree_equal outputs instances (rep s x) (rep o x) (sizes_of s x) (sizes_of o x) h

  agree_where : (a b : Option Report) (r : Report) → a ≡ Some r → b ≡ Some r → agree a b ≡ true
  agree_where a b r ea eb = (λ i. agree (ea i) (eb i)) ∙ agree_itself r

  three : (x : World_state) → vote m x ≡ All → ThreeAreEqual m x
  three x h =
      let bits = bits_all (agree (rep A x) (rep B x)) (agree (rep A x) (rep C x)) (agree (rep B x) (rep C x)) h in
      let ab = equal_seats A B x bits.0 in
      let ac = equal_seats A C x bits.1 in
      record { report = ab.0; each = λ seat. by seat ab.1 ab.2 (ac.2 ∙ sym ac.1 ∙ ab.1) }
    where
      by : {r : Report} (seat : Seat) → rep A x ≡ Some r → rep B x ≡ Some r → rep C x ≡ Some r → rep seat x ≡ Some r
      by A a b c = a
      by B a b c = b
      by C a b c = c

  two_equal : (x : World_state) (seat : Seat) → vote m x ≡ Two seat → TwoAreEqual m x seat
  two_equal x A h =
      let bits = bits_a (agree (rep A x) (rep B x)) (agree (rep A x) (rep C x)) (agree (rep B x) (rep C x)) h in
      let bc = equal_seats B C x bits.1 in
      record {
        report = bc.0;
        others = λ o other. by o other bc.1 bc.2;
        differs = λ e. false≢true (sym bits.0 ∙ agree_where (rep A x) (rep B x) bc.0 e bc.1);
      }
    where
      by : {r : Report} (o : Seat) → is_same A o ≡ false → rep B x ≡ Some r → rep C x ≡ Some r → rep o x ≡ Some r
      by A other b c = absurd (cc)
      by B other b c = b
      by C other b c = c
  two_equal x B h =
      let bits = bits_b (agree (rep A x) (rep B x)) (agree (rep A x) (rep C x)) (agree (rep B x) (rep C x)) h in
      let ac = equal_seats A C x bits.1 in
      record {
        report = ac.0;
        others = λ o other. by o other ac.1 ac.2;
        differs = λ e. false≢true (sym bits.0 ∙ agree_where (rep A x) (rep B x) ac.0 ac.1 e);
      }
    where
      by : {r : Report} (o : Seat) → is_same B o ≡ false → rep A x ≡ Some r → rep C x ≡ Some r → rep o x ≡ Some r
      by A other a c = a
      by B other a c = absurd (cc)
      by C other a c = c
  two_equal x C h =
      let bits = bits_c (agree (rep A x) (rep B x)) (agree (rep A x) (rep C x)) (agree (rep B x) (rep C x)) h in
      let ab = equal_seats A B x bits.0 in
      record {
        report = ab.0;
        others = λ o other. by o other ab.1 ab.2;
        differs = λ e. false≢true (sym bits.1 ∙ agree_where (rep A x) (rep C x) ab.0 ab.1 e);
      }
    where
      by : {r : Report} (o : Seat) → is_same C o ≡ false → rep A x ≡ Some r → rep B x ≡ Some r → rep o x ≡ Some r
      by A other a b = a
      by B other a b = b
      by C other a b = absurd (cc)

  all_given : (x : World_state) (seat : Seat) (r : Report) → rep A x ≡ Some r → rep B x ≡ Some r → rep C x ≡ Some r → rep seat x ≡ Some r
  all_given x A r a b c = a
  all_given x B r a b c = b
  all_given x C r a b c = c

  -- a vote that is All gives the seat a report that it is said not to have
  two_voted : (x : World_state) (seat : Seat) → TwoAreEqual m x seat → vote m x ≡ Two seat
  two_voted x seat h = elim (vote_shares seat x h.report h.others).voted [
    | inl all ↦
        let t = three x all in
        let o : Seat = another seat in
        let same : Some t.report ≡ Some h.report = sym (t.each o) ∙ h.others o (is_another seat) in
        absurd (h.differs (t.each seat ∙ same))
    | inr two ↦ two
  ]
    where
      another : Seat → Seat
      another A = B
      another B = C
      another C = A

      is_another : (s : Seat) → is_same s (another s) ≡ false
      is_another A = refl
      is_another B = refl
      is_another C = refl

  pub votes_exactly : VotesExactly m
  votes_exactly = record {
    all = λ x. (three x, λ h. vote_all x h.report h.each);
    two = λ x seat. (two_equal x seat, two_voted x seat);
  }
