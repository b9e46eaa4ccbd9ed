-- How a call comes to the lines of what the outputs of an application demand, and what it leaves of what was checked.
use Rattle.std.specs.Prelude.{IfOk, IfErr, OnOk}
use Rattle.std.proofs.Common.{◌≡◌, ◌∙◌, ℕ, List, [], ◌∷◌, Some, IsTrue, Result, Ok, Err, sym, ap, subst}
use Rattle.ps_base.specs.declared.failing.Fail.{Fail}
use Rattle.ps_base.specs.declared.failing.Fail.TheVariants.{Memory as NoneForRules, Refused as RefusedByRules}
use Rattle.ps_base.specs.declared.failing.Refusal.{Refusal}
use Rattle.ps_flow.specs.Derivation.{certificate}
use Rattle.ps_flow.specs.declared.certificate.CertLine.{CertLine}
use Rattle.ps_model.specs.Network.{Network}
use Rattle.ps_accepted.proofs.OneBreach.{one_acceptance}
use Rattle.ps_accepted.specs.Answering.{IsFrontOf}
use Rattle.ps_accepted.specs.Demanding.{AreDemands, GivesDemanded, IsCheckedOf, IsDemandableAs, app_demanded, checked_demanded, lines_demanded}
use Rattle.ps_accepted.specs.Source.{IsAcceptedAs, counts}
use Rattle.ps_accepted.specs.Source.Reading.{stands_for, is_refused}
use Rattle.ps_accepted.specs.declared.demanding.Demanded.{Demanded}
use Rattle.ps_top.specs.Asking.{Worked, worked}
use Rattle.ps_top.specs.Asking.Asking.{Says}
use Rattle.ps_top.specs.Calls.{Answers, CallSeen, LeavesRefusal, Passes}
use Rattle.ps_top.specs.Program.{LeavesAccepted, answer, demand, demanded, with_bytes, with_checked, with_text}
use Rattle.ps_top.specs.Refusing.{GivesNone, short, refuses, SaysNone, SaysWhy}
use Rattle.ps_top.specs.Sourcing.{Finds, HasLines}
use Rattle.ps_top.specs.declared.Status.{Status}
use Rattle.ps_top.specs.declared.Status.TheVariants.{Done}
use Rattle.ps_top.proofs.Applied.{reads_on}
use Rattle.ps_top.proofs.Calling.{GoesOnAs, answers_behind, answers_wider, passes_both}

not_refused : {net : Network} {refusal : Refusal} → stands_for net ≡ is_refused refusal → ⊥
not_refused h = cc

same_app : {a b : Network} → stands_for a ≡ stands_for b → a ≡ b
same_app h = cc

-- of an accepted application what was checked is left
left_of : (text : List ℕ) (net : Network) (before work : Worked) → IsAcceptedAs text (stands_for net) →
    work ≡ with_checked (counts net (certificate net)) (with_text text before) → LeavesAccepted text before work
left_of text net before work stands left = record {
  accepted = λ other accepted.
      let same : net ≡ other = same_app (one_acceptance text (stands_for net) (stands_for other) stands accepted) in
      left ∙ ap (λ (n : Network). with_checked (counts n (certificate n)) (with_text text before)) same;
  refused = λ refusal refused. absurd (not_refused (one_acceptance text (stands_for net) (is_refused refusal) stands refused));
}

-- of a text that is refused before only its bytes are
pub none_left : (text : List ℕ) (refusal : Refusal) (before work : Worked) → IsAcceptedAs text (is_refused refusal) → work ≡ with_text text before → LeavesAccepted text before work
none_left text refusal before work refused left = record {
  accepted = λ other accepted. absurd (not_refused (one_acceptance text (stands_for other) (is_refused refusal) accepted refused));
  refused = λ other also. left;
}

module _ (name : List ℕ) (d : Demanded) (bytes : List ℕ) {old mid : CallSeen} (passes : Passes old mid) (same : mid.left ≡ old.left) (checked : IsCheckedOf d)
    (given : IsTrue old.files.tells → (text : List ℕ) × (old.files.held name ≡ Some text) × IsFrontOf bytes text × GivesDemanded text d) where
  -- so much is left wherever a call comes to
  abbrev LeavesBoth : CallSeen → Type 0
  LeavesBoth new = worked new.left ≡ with_checked (checked_demanded d) (with_bytes bytes (worked mid.left))

  demanded_left : (new : CallSeen) → LeavesBoth new → (text : List ℕ) → IsFrontOf bytes text → GivesDemanded text d → LeavesAccepted text (worked old.left) (worked new.left)
  demanded_left new left text front gives =
      let net : Network = app_demanded d in
      let counted : checked_demanded d ≡ counts net (certificate net) = checked.counts_are ∙ ap (λ (ls : List CertLine). counts net ls) checked.derivation in
      left_of text net (worked old.left) (worked new.left) gives.accepted (left ∙ (λ i. with_checked (counted i) (with_bytes (front i) (worked (same i)))))

  -- the lines of what the outputs demand were found
  pub lines_found : (new : CallSeen) (r : Result (List ℕ) Status) → OnOk r (Passes mid new) → IfOk r (λ lines. lines_demanded d ≡ Ok lines) → LeavesBoth new →
      IfOk r (Finds HasLines LeavesAccepted name old new)
  lines_found new (Ok lines) goes are left = record {
    passes = passes_both {old = old} {mid = mid} {new = new} passes goes;
    gives = λ tells. let g = given tells in (
      g.0,
      g.1,
      (app_demanded d, subst (λ (ls : Result (List ℕ) Fail). AreDemands g.0 (app_demanded d) ls) are g.3.demands),
      demanded_left new left g.0 g.2 g.3,
    );
  }
  lines_found new (Err status) goes are left = tt

  -- there are none, by the rule M1 or if memory runs out
  none_for : (new : CallSeen) (why : Fail) (status : Status) → lines_demanded d ≡ Err why → SaysNone why mid new status → LeavesRefusal new.left new.out status → LeavesBoth new →
      GivesNone LeavesAccepted IsDemandableAs name old new status
  none_for new NoneForRules status are says leaves left = short says.0 (passes_both {old = old} {mid = mid} {new = new} passes says.1)
  none_for new (RefusedByRules refusal) status are says leaves left =
      refuses mid refusal
      (λ tells. let g = given tells in (
        g.0,
        g.1,
        subst (λ (ls : Result (List ℕ) Fail). AreDemands g.0 (app_demanded d) ls) are g.3.demands,
        demanded_left new left g.0 g.2 g.3,
      )) passes says leaves

  pub lines_none : (new : CallSeen) (r : Result (List ℕ) Status) → IfErr r (SaysWhy (lines_demanded d) mid new) → LeavesBoth new → IfErr r (GivesNone LeavesAccepted IsDemandableAs name old new)
  lines_none new (Ok lines) says left = tt
  lines_none new (Err status) says left = none_for new says.0 status says.1 says.2 says.3 left

-- the lines of what an application demands were said
pub lines_answers : (app lines : List ℕ) {old mid new : CallSeen} {status : Status} → Finds HasLines LeavesAccepted app old mid lines →
    Answers (Says (answer lines Done)) [] mid new status → Answers (demand app) (app ∷ []) old new status
lines_answers app lines {old} {mid} {new} {status} found answers =
    answers_wider app (answers_behind (demand app) (Says (answer lines Done)) [] {old = old} {mid = mid} {new = new} found.passes
    (λ tells.
    let g = found.gives tells in
    let net : Network = g.2.0 in
    subst (λ (ls : List ℕ). GoesOnAs (demand app) (Says (answer ls Done)) old.files.held (worked old.left) (worked mid.left) status) (sym g.2.1.1)
    (reads_on app g.0 LeavesAccepted IsDemandableAs (λ source. demanded) (stands_for net) old.files.held (worked old.left) (worked mid.left) status g.1 g.2.1.0 g.3)) answers)
