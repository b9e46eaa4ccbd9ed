-- What a scan of three seats comes to, by what its world answers.
use Rattle.std.proofs.Common.{◌≡◌, ◌∙◌, ℕ, Option, Some, None, Ok, Err, refl, sym, ap}
use Rattle.std.proofs.lemmas.Result.{IfOk-at_ok, IfErr-at_err}
use Rattle.ps_base.specs.declared.failing.Refusal.{Refusal}
use Rattle.ps_base.specs.declared.failing.Rule.TheVariants.{F4}
use Rattle.ps_model.specs.declared.report.Report.{Report}
use Rattle.ps_vote.specs.declared.faults.VoteFault.{VoteFault}
use Rattle.ps_vote.specs.declared.seat.Vote.{Vote}
use Rattle.ps_vote.specs.Orders.{scan_answer}
use Rattle.ps_runs.specs.Outcomes.{Outcome, performed, refuses}
use Rattle.ps_runs.specs.Seats.{unless_at_fault}

-- a scan that has a vote ends at no fault
pub vote_comes : (at : Option VoteFault) (v w : Vote) (now : ℕ) (r q : Report) → Ok v ≡ scan_answer at w → r ≡ q →
    performed now v r ≡ unless_at_fault at (performed now w q)
vote_comes None v w now r q is same = let votes : v ≡ w = IfOk-at_ok (λ x. x ≡ w) (sym is) refl in λ i. performed now (votes i) (same i)
vote_comes (Some f) v w now r q is same = cc

-- and one that has none ends at the fault of this line
pub refusal_comes : (at : Option VoteFault) (line : ℕ) (refusal : Refusal) (w : Vote) (outcome : Outcome Vote) → Err line ≡ scan_answer at w → refusal ≡ record { rule = F4; place = record { line = line; column = 0 } } →
    refuses refusal ≡ unless_at_fault at outcome
refusal_comes None line refusal w outcome is same = cc
refusal_comes (Some f) line refusal w outcome is same =
    let lines : line ≡ f.line = IfErr-at_err (λ n. n ≡ f.line) (sym is) refl in ap refuses (same ∙ (λ i. record { rule = F4; place = record { line = lines i; column = 0 } }))
