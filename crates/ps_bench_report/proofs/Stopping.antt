-- Why the items of a trace that is recorded are not all done.
use Rattle.std.proofs.Common.{◌≡◌, ◌∙◌, ℕ, List, Result, Err, ap}
use Rattle.ps_base.specs.declared.failing.Refusal.{Refusal}
use Rattle.ps_model.specs.declared.channel.Verdict.{Verdict}
use Rattle.ps_model.specs.Meaning.{Item}
use Rattle.ps_model.specs.Meaning.Item.{scan, restart}
use Rattle.ps_model.specs.Network.{Network}
use Rattle.ps_runs.specs.Doing.{Did, time_behind, all, refused, unread, refused_item, unwritten, next}
use Rattle.ps_runs.specs.Outcomes.{Outcome, refuses, anew}
use Rattle.ps_runs.specs.Performing.{Performs}
use Rattle.ps_runs.specs.Watching.{Watches}
use Rattle.ps_runs.specs.declared.items.Cut.{Cut}
use Rattle.ps_runs.specs.declared.items.Cut.TheVariants.{Refused}
use Rattle.ps_runs.specs.declared.striking.StruckWorld.{StruckWorld}
use Rattle.ps_runs.specs.declared.watching.Watched.{Watched}
use Rattle.ps_trace.specs.Scans.{Scans, refused as end_refused}

-- a world of two channels refuses no item
refuses_none : (net : Network) (p : StruckWorld) (item : Item) (refusal : Refusal) (p' : StruckWorld) →
    Performs net p item (refuses refusal) p' → ⊥
refuses_none net p (scan now ins) refusal p' done = let no = done.compares in cc
refuses_none net p restart refusal p' done = let no : refuses refusal ≡ anew = done.0 in cc

-- so a refusal is that of the trace
pub done_refused : {T : Type 0} (net : Network) (said : T → Watched StruckWorld → Outcome Verdict → List ℕ)
    (takes : T → Watched StruckWorld → Outcome Verdict → T → Type 0)
    (time : ℕ) (p : Watched StruckWorld) (t : T) (scans : Scans) (bytes : List ℕ) (ended : Result (Unit {0}) Cut) (p'' : Watched StruckWorld) (t'' : T)
    (refusal : Refusal) →
    Did (Watches Performs net) said takes time p t scans bytes ended p'' t'' → ended ≡ Err (Refused refusal) → scans.end ≡ end_refused refusal
done_refused net said takes _ _ _ _ _ _ _ _ refusal (all time p t scans is) ended = cc
done_refused net said takes _ _ _ _ _ _ _ _ refusal (refused time p t scans r is) ended =
    let same : r ≡ refusal = cc in
    ap (λ (s : Scans). s.end) is ∙ ap end_refused same
done_refused net said takes _ _ _ _ _ _ _ _ refusal (unread time p t scans) ended = cc
done_refused net said takes _ _ _ _ _ _ _ _ refusal (refused_item time p t scans item rest r p' begins is_due watches) ended =
    absurd (refuses_none net p.performer item r p'.performer watches.done)
done_refused net said takes _ _ _ _ _ _ _ _ refusal (unwritten time p t scans item rest outcome p' t' n begins is_due watches) ended = cc
done_refused net said takes _ _ _ _ _ _ _ _ refusal (next time p t scans item rest outcome p' t' bytes e p'' t'' begins is_due watches took did) ended =
    ap (λ (s : Scans). s.end) begins ∙ done_refused net said takes (time_behind time item) p' t' rest bytes e p'' t'' refusal did ended
