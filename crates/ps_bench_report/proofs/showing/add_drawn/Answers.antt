use Rattle.std.proofs.Common.{◌∙◌, ℕ, List, Option, inl, inr, subst}
use Rattle.std.specs.Prelude.{IsSomeAnd}
use Rattle.std.proofs.lemmas.Result.{on_ok_weaker}
use Rattle.ps_bench_cases.specs.Alone.{alone}
use Rattle.ps_bench_cases.specs.Legible.{IsLegible}
use Rattle.ps_bench_cases.specs.Meant.{whole_case}
use Rattle.ps_bench_report.specs.Played.{IsKeptOf}
use Rattle.ps_bench_report.specs.declared.filming.Kept.{Kept}
use Rattle.ps_bench_report.specs.Sheets.{ShowsDiagram}
use Rattle.ps_bench_report.proofs.Covering.{one_covered}
use Rattle.ps_bench_test.specs.Outcome.{ran_of}
use Rattle.ps_bench_report.proofs.showing.add_drawn.Goals as goal

pub returns-in_ok-id-in-Some : goal.returns-in_ok-id-in-Some
returns-in_ok-id-in-Some c =
    let run = c.args.run.now in
    let case = whole_case run.file.now run.case.now in
    let kept : IsLegible run.app.now (alone run.file.now run.case.now) → IsKeptOf run.app.now case c.in-Some.kept =
    λ legible. subst (λ (o : Option Kept). IsSomeAnd o (IsKeptOf run.app.now case)) c.in-Some.is (c.in_ok-kept.ensures.records legible) in
    record {
      drawn = on_ok_weaker c.add_diagram.result (λ shown whole.
          let is = shown whole in (
            is.0,
            inl (record {
              recording = c.in-Some.kept.recording;
              is_of = λ legible. (kept legible).records;
              shows = subst (λ (id : List ℕ). ShowsDiagram (ran_of run) id c.in-Some.kept.recording c.args.page.now.pieces c.add_diagram.new.page.pieces)
                  (c.as_slice.ensures ∙ c.in_ok-id-in-Some.ensures) is.1;
            }),
          )) c.add_diagram.ensures;
      covers = on_ok_weaker c.add_diagram.result
          (λ shown. one_covered (ran_of run) c.args.total.now c.in-Some.kept.cover c.join.new.self
          (λ states meant. (kept meant.is_known).covers (states (ran_of run)) meant.means) c.join.ensures) c.add_diagram.ensures;
    }

pub returns-in-None : goal.returns-in-None
returns-in-None c =
    let run = c.args.run.now in
    let case = whole_case run.file.now run.case.now in
    let none : IsLegible run.app.now (alone run.file.now run.case.now) → ⊥ =
    λ legible. subst (λ (o : Option Kept). IsSomeAnd o (IsKeptOf run.app.now case)) c.in-None.is (c.in_ok-kept.ensures.records legible) in
    record {
      drawn = λ whole.
          let is = c.element.ensures whole in
          (is.0, inr (none, is.1));
      covers = λ states meant. absurd (none meant.0.is_known);
    }
