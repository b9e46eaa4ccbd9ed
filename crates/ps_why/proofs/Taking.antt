-- The next state by the ways of a kind is that of its table.
use Rattle.std.proofs.Common.{◌≡◌, ◌⊎◌, ℕ, suc, ◌+◌, ◌-◌, ◌<◌, Bool, true, ◌&&◌, List, [], ◌∷◌, Some, refl, sym, ap, ◌∙◌, inl, inr, arith}
use Rattle.std.specs.Prelude.{◌==◌, nat_lt, slice_get, if◌then◌else◌}
use Rattle.std.specs.List.{list_all}
use Rattle.std.proofs.lemmas.Bool.{and_parts, cases_Bool, cond-true, cond-false, eqb-true, ltb-true}
use Rattle.ps_model.specs.Blocks.{block}
use Rattle.ps_model.specs.Table.{Conditions, Rule, decided, row_at}
use Rattle.ps_model.specs.declared.kind.Kind.{Kind}
use Rattle.ps_model.specs.declared.kind.Kind.TheVariants.{Equivalent, Antivalent, EmergencyStop, Espe, ModeSelector}
use Rattle.ps_model.specs.declared.kind.Kind.TheVariants.{TwoHandTwo, TwoHandThree, GuardMonitoring, GuardLocking}
use Rattle.ps_model.specs.declared.kind.Kind.TheVariants.{EnableSwitch, SafetyRequest, OutControl, Edm}
use Rattle.ps_ways.specs.Tables.{leads_to, rule_of, ways_of}
use Rattle.ps_ways.specs.Ways.{first_rule, holds, taken}
use Rattle.ps_ways.specs.declared.way.Way.{Way}
use Rattle.ps_ways.proofs.EachKind.{each_kind, each_leads}

-- the state to which the first way of a state that holds leads; where none does the state stays
abbrev pub next_by : (q : ℕ) → List Way → Conditions → ℕ
next_by q [] c = q
next_by q (w ∷ ways) c = if w.state == q && holds w c then w.next else next_by q ways c

-- the number of each way is above 0
abbrev numbered : List Way → Bool
numbered ways = list_all (λ w. nat_lt 0 w.number) ways

each_numbered : (kind : Kind) → numbered (ways_of kind) ≡ true
each_numbered Equivalent = refl
each_numbered Antivalent = refl
each_numbered EmergencyStop = refl
each_numbered Espe = refl
each_numbered ModeSelector = refl
each_numbered TwoHandTwo = refl
each_numbered TwoHandThree = refl
each_numbered GuardMonitoring = refl
each_numbered GuardLocking = refl
each_numbered EnableSwitch = refl
each_numbered SafetyRequest = refl
each_numbered OutControl = refl
each_numbered Edm = refl

module _ (q : ℕ) (c : Conditions) where
  -- a rule decides, whose place its number gives
  record ByRule (n : ℕ) (rules : List Rule) : Type 0 where
    pub place : ℕ
    pub rule : Rule
    pub number : first_rule n rules c ≡ n + place
    pub at : slice_get rules place ≡ Some rule
    pub leads : decided q rules c ≡ rule.next

  -- no rule does
  abbrev NoRule : ℕ → List Rule → Type 0
  NoRule n rules = (first_rule n rules c ≡ 0) × (decided q rules c ≡ q)

  by_rules : (n : ℕ) (rules : List Rule) → NoRule n rules ⊎ ByRule n rules
  by_rules n [] = inl (refl, refl)
  by_rules n (r ∷ rules) =
      elim (cases_Bool (r.guard c)) [
        | inl on ↦
            inr (record {
              place = 0;
              rule = r;
              number = cond-true (r.guard c) n (first_rule (1 + n) rules c) on ∙ omega arith;
              at = refl;
              leads = cond-true (r.guard c) r.next (decided q rules c) on;
            })
        | inr off ↦
            elim (by_rules (1 + n) rules) [
              | inl none ↦
                  inl (cond-false (r.guard c) n (first_rule (1 + n) rules c) off ∙ none.0, cond-false (r.guard c) r.next (decided q rules c) off ∙ none.1)
              | inr one ↦
                  inr (record {
                    place = suc one.place;
                    rule = one.rule;
                    number = cond-false (r.guard c) n (first_rule (1 + n) rules c) off ∙ one.number ∙ omega arith;
                    at = one.at;
                    leads = cond-false (r.guard c) r.next (decided q rules c) off ∙ one.leads;
                  })
            ]
      ]

  module _ (kind : Kind) where
    -- a way decides, and leads where its rule does
    record ByWay (ways : List Way) : Type 0 where
      pub way : Way
      pub of_state : way.state ≡ q
      pub above : 0 < way.number
      pub number : taken ways q c ≡ way.number
      pub leads : next_by q ways c ≡ way.next
      pub as_rule : leads_to way.next (rule_of kind way) ≡ true

    -- no way does
    abbrev NoWay : List Way → Type 0
    NoWay ways = (taken ways q c ≡ 0) × (next_by q ways c ≡ q)

    by_ways : (ways : List Way) → numbered ways ≡ true → list_all (λ (w : Way). leads_to w.next (rule_of kind w)) ways ≡ true →
        NoWay ways ⊎ ByWay ways
    by_ways [] n l = inl (refl, refl)
    by_ways (w ∷ ways) n l =
        let ns = and_parts (nat_lt 0 w.number) (numbered ways) n in
        let ls = and_parts (leads_to w.next (rule_of kind w)) (list_all (λ (w : Way). leads_to w.next (rule_of kind w)) ways) l in
        let is = w.state == q && holds w c in
        elim (cases_Bool (w.state == q && holds w c)) [
          | inl on ↦
              inr (record {
                way = w;
                of_state = eqb-true w.state q (and_parts (w.state == q) (holds w c) on).0;
                above = ltb-true 0 w.number ns.0;
                number = cond-true is w.number (taken ways q c) on;
                leads = cond-true is w.next (next_by q ways c) on;
                as_rule = ls.0;
              })
          | inr off ↦
              elim (by_ways ways ns.1 ls.1) [
                | inl none ↦ inl (cond-false is w.number (taken ways q c) off ∙ none.0, cond-false is w.next (next_by q ways c) off ∙ none.1)
                | inr one ↦
                    inr (record {
                      way = one.way;
                      of_state = one.of_state;
                      above = one.above;
                      number = cond-false is w.number (taken ways q c) off ∙ one.number;
                      leads = cond-false is w.next (next_by q ways c) off ∙ one.leads;
                      as_rule = one.as_rule;
                    })
              ]
        ]

    -- the rule of the number of a way that decides
    same_rule : (w : ByWay (ways_of kind)) (r : ByRule 1 (row_at (block kind).rows q).rules) → rule_of kind w.way ≡ Some r.rule
    same_rule w r =
        let number : w.way.number - 1 ≡ r.place = omega (arith, sym w.number ∙ each_kind kind q c ∙ r.number) in
        ap (λ s. slice_get (row_at (block kind).rows s).rules (w.way.number - 1)) w.of_state
        ∙ ap (slice_get (row_at (block kind).rows q).rules) number
        ∙ r.at

    pub decided_by_ways : decided q (row_at (block kind).rows q).rules c ≡ next_by q (ways_of kind) c
    decided_by_ways =
        elim (by_rules 1 (row_at (block kind).rows q).rules) [
          | inl no_rule ↦
              elim (by_ways (ways_of kind) (each_numbered kind) (each_leads kind)) [
                | inl no_way ↦ no_rule.1 ∙ sym no_way.1
                | inr w ↦ absurd (omega (arith, w.above, sym w.number ∙ each_kind kind q c ∙ no_rule.0))
              ]
          | inr r ↦
              elim (by_ways (ways_of kind) (each_numbered kind) (each_leads kind)) [
                | inl no_way ↦ absurd (omega (arith, sym no_way.0 ∙ each_kind kind q c ∙ r.number))
                | inr w ↦
                    r.leads
                    ∙ eqb-true r.rule.next w.way.next (sym (ap (leads_to w.way.next) (same_rule w r)) ∙ w.as_rule)
                    ∙ sym w.leads
              ]
        ]
