-- When a case begins in the expanded trace, and the time of its last scan.
use Rattle.std.proofs.Common.{◌≡◌, ◌≤◌, ◌+◌, ◌*◌, ◌++◌, ◌∙◌, ◌==◌, min, ℕ, zero, suc, List, [], ◌∷◌, if◌then◌else◌, fold, refl, sym, ap, arith}
use Rattle.std.proofs.lemmas.Grind.{common_steps}
use Rattle.std.proofs.lemmas.List.{append_assoc, append-nil}
use Rattle.ps_bench_cases.specs.declared.case.Pace.{Pace}
use Rattle.ps_bench_cases.specs.declared.case.Act.{Act}
use Rattle.ps_bench_cases.specs.declared.case.Act.TheVariants as act
use Rattle.ps_bench_cases.specs.declared.case.Statement.{Statement}
use Rattle.ps_bench_cases.specs.declared.case.Case.{Case}
use Rattle.ps_bench_cases.specs.declared.stand.Stand.{Stand}
use Rattle.ps_bench_cases.specs.declared.point.Point.{Point}
use Rattle.ps_bench_cases.specs.Meant.{time_at}
use Rattle.ps_bench_cases.specs.Stands.{stand_after}
use Rattle.ps_bench_cases.specs.Expanded.{begin_point, end_point, next_point, restart_line, case_text, cases_text}
use Rattle.ps_bench_cases.specs.Rooms.{base_behind, lead_of}
use Rattle.ps_bench_cases.proofs.Points.{fold_behind}
use Rattle.ps_bench_cases.proofs.Running.{IsBehind}

-- ---- The time of the last scan.

-- it does not depend on when a case begins
next_time : (p q : Point) (s : Statement) (a : Act) → s.act ≡ a → p.time ≡ q.time → (next_point p s).time ≡ (next_point q s).time
next_time p q s (act.Scans pace) is same = rw is (ap (λ (t : ℕ). if pace.count == 0 then t else time_at pace pace.count) same)
next_time p q s (act.Fault fault) is same = rw is same
next_time p q s act.Set is same = rw is same
next_time p q s act.Restart is same = rw is same
next_time p q s (act.Expect what) is same = rw is same

pub same_time : (statements : List Statement) (p q : Point) → p.time ≡ q.time → (fold next_point p statements).time ≡ (fold next_point q statements).time
same_time [] p q same = same
same_time (s ∷ statements) p q same = same_time statements (next_point p s) (next_point q s) (next_time p q s s.act refl same)

-- the trace and the case stand at one time after a pace
scans_time : (count : ℕ) (t : ℕ) (pace : Pace) → t ≡ pace.from → pace.from ≤ pace.upto → min (pace.from + count * pace.step) pace.upto ≡ pace.upto →
    (if count == 0 then t else min (pace.from + count * pace.step) pace.upto) ≡ pace.upto
scans_time zero t pace is on reaches = omega (arith, is, on, reaches)
scans_time (suc count) t pace is on reaches = grind (arith, common_steps)

-- and after what any line does
act_time : (p : Point) (number : ℕ) (stand : Stand) (s : Statement) (a : Act) → s.act ≡ a → IsBehind stand a → stand.time ≡ p.time → (stand_after number stand a).time ≡ (next_point p s).time
act_time p number stand s (act.Scans pace) is on same = rw is (sym (scans_time pace.count p.time pace (sym same ∙ sym on.from) on.upto on.reaches))
act_time p number stand s (act.Fault fault) is on same = rw is same
act_time p number stand s act.Set is on same = rw is same
act_time p number stand s act.Restart is on same = rw is same
act_time p number stand s (act.Expect what) is on same = rw is same

module _ (inputs : ℕ) where
  -- a case that goes on by a line
  pub time_more : (base : ℕ) (statements : List Statement) (number : ℕ) (stand : Stand) (s : Statement) → IsBehind stand s.act →
      stand.time ≡ (end_point inputs base statements).time → (stand_after number stand s.act).time ≡ (end_point inputs base (statements ++ s ∷ [])).time
  time_more base statements number stand s on same =
      act_time (end_point inputs base statements) number stand s s.act refl on same ∙ sym (ap (λ (p : Point). p.time) (fold_behind statements (s ∷ []) (begin_point inputs base)))

  -- wherever a case begins it ends as much later
  pub time_anywhere : (base other : ℕ) (statements : List Statement) → (end_point inputs base statements).time ≡ (end_point inputs other statements).time
  time_anywhere base other statements = same_time statements (begin_point inputs base) (begin_point inputs other) refl

  -- ---- When a case begins.

  -- a case after others begins where the last of them ends
  pub base_push : (begin : List Statement) (base : ℕ) (cases : List Case) (c : Case) →
      base_behind inputs begin base (cases ++ c ∷ []) ≡ base_behind inputs begin base cases + (end_point inputs (base_behind inputs begin base cases) (begin ++ c.statements)).time
  base_push begin base [] c = refl
  base_push begin base (d ∷ cases) c = base_push begin (base + (end_point inputs base (begin ++ d.statements)).time) cases c

  -- ---- The texts of cases.

  -- the text of one more case
  pub cases_push : (begin : List Statement) (base : ℕ) (cases : List Case) (c : Case) →
      cases_text inputs begin (lead_of []) base (cases ++ c ∷ []) ≡
      cases_text inputs begin (lead_of []) base cases ++ (lead_of cases ++ case_text inputs (base_behind inputs begin base cases) c.name (begin ++ c.statements))
  cases_push begin base [] c = append-nil (case_text inputs base c.name (begin ++ c.statements))
  cases_push begin base (d ∷ cases) c =
      let one = case_text inputs base d.name (begin ++ d.statements) in
      let next = base + (end_point inputs base (begin ++ d.statements)).time in
      let last = case_text inputs (base_behind inputs begin next cases) c.name (begin ++ c.statements) in
      ap (λ (bytes : List ℕ). one ++ bytes) (behind next cases) ∙ sym (append_assoc one (cases_text inputs begin restart_line next cases) (restart_line ++ last))
    where
      behind : (later : ℕ) (others : List Case) → cases_text inputs begin restart_line later (others ++ c ∷ []) ≡
          cases_text inputs begin restart_line later others ++ (restart_line ++ case_text inputs (base_behind inputs begin later others) c.name (begin ++ c.statements))
      behind later [] = append-nil (restart_line ++ case_text inputs later c.name (begin ++ c.statements))
      behind later (e ∷ others) =
          let piece = restart_line ++ case_text inputs later e.name (begin ++ e.statements) in
          let after = later + (end_point inputs later (begin ++ e.statements)).time in
          ap (λ (bytes : List ℕ). piece ++ bytes) (behind after others)
          ∙ sym (append_assoc piece (cases_text inputs begin restart_line after others) (restart_line ++ case_text inputs (base_behind inputs begin after others) c.name (begin ++ c.statements)))
