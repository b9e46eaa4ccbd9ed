-- What the tests of a fault line say of the faults before it.
use Rattle.std.proofs.Common.{◌≡◌, ◌≤◌, ◌++◌, ◌∙◌, ℕ, List, [], ◌∷◌, Bool, true, false, Option, Some, None, get_or, refl, sym, ap, subst, arith}
use Rattle.std.specs.Prelude.{not, ◌&&◌}
use Rattle.std.proofs.lemmas.Grind.{common_steps}
use Rattle.std.proofs.lemmas.List.Elements.{All-push}
use Rattle.std.proofs.lemmas.List.Quantifiers.{all_pairs_push}
use Rattle.std.proofs.lemmas.Option.{same_Some}
use Rattle.ps_trace.specs.declared.fault_file.Before.{Before}
use Rattle.ps_trace.specs.declared.target.FaultLine.{FaultLine}
use Rattle.ps_trace.specs.Faults.{Targets, falls, is_other, fault_judged, form_judged, fault_said, words_struck, before_next, first_struck}
use Rattle.ps_trace.specs.Faults.Struck.{strikes}
use Rattle.ps_trace.specs.Found.{IsUpTo, AreUpTo}
use Rattle.ps_trace.specs.FaultOrder.{StrikesNoLater, StrikeInOrder, StrikeOne}

module _ {Who Fault : Type 0} (t : Targets Who Fault) where
  -- a fault line strikes no earlier than the line before, and the first one, if there is one, where a file may strike one alone
  pub record IsFrom (before : Before Who) (line : FaultLine Who) : Type 0 where
    pub scan : before.scan ≤ line.scan
    pub turn : before.scan ≡ line.scan → before.turn ≤ line.turn
    pub first : t.one_alone ≡ true → (who : Who) → before.first ≡ Some who → who ≡ line.who

  -- one that is no other is the first
  same_first : ((a b : Who) → t.is_same a b ≡ true → a ≡ b) → (first : Option Who) (who other : Who) → is_other t.is_same first who ≡ false → first ≡ Some other → other ≡ who
  same_first equal None who other no_other is = cc
  same_first equal (Some first) who other no_other is = sym (same_Some first other is) ∙ equal first who (not_not (t.is_same first who) no_other)
    where
      not_not : (b : Bool) → not b ≡ false → b ≡ true
      not_not true e = refl
      not_not false e = cc

  -- a fault line that passed the tests
  judged_from : ((a b : Who) → t.is_same a b ≡ true → a ≡ b) → (before : Before Who) (said line : FaultLine Who) → fault_judged t before said ≡ strikes line → IsFrom before line
  judged_from equal before said line is =
      let same : said ≡ line = grind (arith, common_steps) in
      let behind : falls before line.scan line.turn ≡ false = grind (arith, common_steps) in
      let one : (t.one_alone && is_other t.is_same before.first line.who) ≡ false = grind (arith, common_steps) in
      record {
        scan = grind (arith, common_steps);
        turn = λ same_scan. grind (arith, common_steps);
        first = λ alone who first. same_first equal before.first line.who who (subst (λ (b : Bool). (b && is_other t.is_same before.first line.who) ≡ false) alone one) first;
      }

  -- a line that has the form of a fault, and passed the tests
  formed_from : ((a b : Who) → t.is_same a b ≡ true → a ≡ b) → (before : Before Who) (said : Option (FaultLine Who)) (line : FaultLine Who) → form_judged t before said ≡ strikes line → IsFrom before line
  formed_from equal before None line is = cc
  formed_from equal before (Some said) line is = judged_from equal before said line is

  -- a line that strikes is no earlier than the line before
  pub struck_from : ((a b : Who) → t.is_same a b ≡ true → a ≡ b) → (before : Before Who) (words : List (List ℕ)) (line : FaultLine Who) → words_struck t before words ≡ strikes line → IsFrom before line
  struck_from equal before [] line is = cc
  struck_from equal before (word ∷ words) line is = formed_from equal before (fault_said t.named (word ∷ words)) line is

  -- a fault line after those up to the line before strikes no earlier than they
  no_earlier : (before : Before Who) (first line : FaultLine Who) → IsUpTo t before first → IsFrom before line → StrikesNoLater first line
  no_earlier before first line upto from = (
    omega (arith, upto.scan, from.scan),
    λ same. omega (arith, upto.turn (omega (arith, upto.scan, from.scan)), from.turn (omega (arith, upto.scan, from.scan))),
  )

  -- who the first fault line strikes, with this one after it
  first_is : (first : Option Who) (who : Who) → ((other : Who) → first ≡ Some other → other ≡ who) → first_struck first who ≡ who
  first_is None who same = refl
  first_is (Some other) who same = same other refl

  module _ (parts : Fault → FaultLine Who) where
    -- one fault more keeps the order
    pub in_order-push : (before : Before Who) (faults : List Fault) (fault : Fault) → AreUpTo t parts before faults → IsFrom before (parts fault) → StrikeInOrder parts faults →
        StrikeInOrder parts (faults ++ fault ∷ [])
    in_order-push before faults fault upto from ordered =
        all_pairs_push (λ a b. StrikesNoLater (parts a) (parts b)) faults fault ordered (λ k d within. no_earlier before (parts (get_or faults k d)) (parts fault) (upto k d within) from)

    -- one fault more strikes the same one
    pub one-push : t.one_alone ≡ true → (before : Before Who) (faults : List Fault) (fault : Fault) → AreUpTo t parts before faults → IsFrom before (parts fault) → StrikeOne parts faults →
        StrikeOne parts (faults ++ fault ∷ [])
    one-push alone before faults fault upto from one =
        all_pairs_push (λ a b. (parts a).who ≡ (parts b).who) faults fault one (λ k d within. from.first alone (parts (get_or faults k d)).who ((upto k d within).first alone))

    -- all faults are up to the line that came last
    pub up_to-push : (before : Before Who) (faults : List Fault) (fault : Fault) → AreUpTo t parts before faults → IsFrom before (parts fault) →
        AreUpTo t parts (before_next (strikes (parts fault)) before) (faults ++ fault ∷ [])
    up_to-push before faults fault upto from =
        All-push (λ f. IsUpTo t (before_next (strikes (parts fault)) before) (parts f)) faults fault
        (λ k d within.
        let first = get_or faults k d in
        let no_later = no_earlier before (parts first) (parts fault) (upto k d within) from in
        record {
          scan = no_later.0;
          turn = no_later.1;
          first = λ alone. ap (λ (c : Option Who). Some (first_struck c (parts fault).who)) ((upto k d within).first alone);
        })
        record {
          scan = omega arith;
          turn = λ same. omega arith;
          first = λ alone. ap (λ (c : Who). Some c) (first_is before.first (parts fault).who (from.first alone));
        }
