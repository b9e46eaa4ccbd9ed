-- How a judged certificate is told.
use Rattle.std.proofs.Common.{◌≡◌, ◌∙◌, ℕ, List, [], ◌∷◌, Option, Some, IsTrue, length, ap, refl, sym, subst, inl, inr, arith}
use Rattle.ps_checker.specs.Counts.{Counts}
use Rattle.ps_model.specs.Network.{Network}
use Rattle.ps_accepted.specs.Source.{counts}
use Rattle.ps_top.specs.Asking.{Worked, worked}
use Rattle.ps_top.specs.Asking.Asking.{Says, Finds}
use Rattle.ps_top.specs.Calls.{CallSeen, with_left, Passes, Answers, SaysAnswer, LeavesRefusal}
use Rattle.ps_top.specs.Judging.{IsJudged, told_of, SaysJudgement}
use Rattle.ps_top.specs.Lines.{verified_line}
use Rattle.ps_top.specs.Meets.{IsCut}
use Rattle.ps_top.specs.Program.{answer, leaves_checked, with_checked, Ruling, Judges, verdict, verify_named}
use Rattle.ps_top.specs.Program.Ruling.{derives, objects}
use Rattle.ps_top.specs.declared.Status.{Status}
use Rattle.ps_top.specs.declared.Status.TheVariants.{Done}
use Rattle.ps_top.specs.declared.verifying.Judgement.{Judgement}
use Rattle.ps_top.specs.declared.verifying.Judgement.TheVariants.{Derives, Objects}
use Rattle.ps_top.specs.declared.left.Left.{Left}
use Rattle.ps_top.proofs.Calling.{GoesOnAs, asks_on, finds_on, leaves_on, goes_both, memory_answers, said_answers, says_at, passes_both, passes_left, answers_behind, answers_wider}

-- what a judgement leaves: the counts of what was checked
abbrev LeavesCounts : Judgement → Worked → Worked → Type 0
LeavesCounts (Derives c) before work = leaves_checked c before work
LeavesCounts (Objects refusal) before work = work ≡ before

-- what is asked of a certificate goes on as the line of its judgement
judged_on : (net : Network) (text : List ℕ) (j : Judgement) (held : List ℕ → Option (List ℕ)) (before work : Worked) (status : Status) → IsJudged net text j →
    LeavesCounts j before work → GoesOnAs (Finds Ruling (Judges net text) (verdict net)) (Says (told_of j)) held before work status
judged_on net text (Derives c) held before work status judged leaves =
    let lines = judged.0 in
    subst (λ (k : Counts). GoesOnAs (Finds Ruling (Judges net text) (verdict net)) (Says (answer (verified_line k.lines) Done)) held before work status) (sym judged.2)
    (goes_both held before status before work (Finds Ruling (Judges net text) (verdict net)) (verdict net (derives lines)) (Says (answer (verified_line (length lines)) Done))
    (finds_on held before status Ruling (Judges net text) (verdict net) (derives lines) judged.1)
    (leaves_on held before status (leaves_checked (counts net lines)) (Says (answer (verified_line (length lines)) Done)) work
    (λ not_cut. leaves ∙ ap (λ (k : Counts). with_checked k before) judged.2)))
judged_on net text (Objects r) held before work status judged leaves =
    subst (λ (w : Worked). GoesOnAs (Finds Ruling (Judges net text) (verdict net)) (Says (told_of (Objects r))) held before w status) (sym leaves)
    (finds_on held before status Ruling (Judges net text) (verdict net) (objects r) judged)

told_no_cut : (j : Judgement) → ¬ IsCut (told_of j).status
told_no_cut (Derives c) cut = grind arith
told_no_cut (Objects r) cut = grind arith

module _ (net : Network) (cert : List ℕ) {old mid new : CallSeen} {status : Status} (passes : Passes old mid) (kept : mid.left ≡ old.left) where
  -- the line of a judgement was said
  line_answers : (j : Judgement) → (IsTrue old.files.tells → (text : List ℕ) × (old.files.held cert ≡ Some text) × IsJudged net text j) → LeavesCounts j (worked mid.left) (worked new.left) →
      SaysAnswer (told_of j) mid new status → LeavesRefusal new.left new.out status → Answers (verify_named net cert) (cert ∷ []) old new status
  line_answers j judged leaves says refuses =
      let there : CallSeen = with_left new.left mid in
      let before = worked old.left in
      let work = worked new.left in
      let left = subst (λ (l : Left). LeavesCounts j (worked l) work) kept leaves in
      answers_wider cert (answers_behind (verify_named net cert) (Says (told_of j)) [] {old = old} {mid = there} {new = new}
      (passes_both {old = old} {mid = mid} {new = there} passes (passes_left new.left refl))
      (λ tells. let text = (judged tells).0 in
      goes_both old.files.held before status before work (verify_named net cert) (Finds Ruling (Judges net text) (verdict net)) (Says (told_of j))
      (asks_on old.files.held before status cert text (λ t. Finds Ruling (Judges net t) (verdict net)) (judged tells).1)
      (judged_on net text j old.files.held before work status (judged tells).2 left))
      (said_answers (told_of j) [] {old = there} {new = new} (told_no_cut j) (says_at new.left says) refuses refl))

  -- a certificate was read and judged, and its line was said, or memory ran out for it
  pub judgement_answers : (j : Judgement) → (IsTrue old.files.tells → (text : List ℕ) × (old.files.held cert ≡ Some text) × IsJudged net text j) → SaysJudgement j mid new status →
      LeavesRefusal new.left new.out status → Answers (verify_named net cert) (cert ∷ []) old new status
  judgement_answers (Derives c) judged (inl none) refuses =
      subst (λ (s : Status). Answers (verify_named net cert) (cert ∷ []) old new s) (sym none.0)
      (memory_answers (verify_named net cert) (cert ∷ []) (subst (λ (x : CallSeen). Passes old x) (sym none.1) passes))
  judgement_answers (Derives c) judged (inr says) refuses = line_answers (Derives c) judged says.1 says.0 refuses
  judgement_answers (Objects r) judged says refuses = line_answers (Objects r) judged says.1 says.0 refuses
