use Rattle.std.proofs.Common.{◌∙◌, ◌++◌, ℕ, IsTrue, List, Err, sym, ap, subst}
use Rattle.ps_report.specs.Short.{refusal_text}
use Rattle.ps_trace.specs.Reading.{items_left}
use Rattle.ps_trace.specs.Scans.{Scans}
use Rattle.ps_bench_why.proofs.Finding.{held_walked, of_done}
use Rattle.ps_bench_why.proofs.walking.walk_named.Goals as goal

pub returns-in-Err-clause-stops : goal.returns-in-Err-clause-stops
returns-in-Err-clause-stops g c = record {
  of_run = c.in-Err.ensures.of_run;
  refuses = λ refusal is.
      let why = c.open_trace.ensures.refuses refusal (c.in-Err.is ∙ ap Err is) in
      (λ tells. let held = why.0 tells in (held.0, held.1, ap (λ (s : Scans). s.end) held.2), why.1);
}

pub returns-in-Ok-walk_up_to-clause-walks : goal.returns-in-Ok-walk_up_to-clause-walks
returns-in-Ok-walk_up_to-clause-walks g c = λ tells.
    let opens = c.in-Ok.ensures.opens tells in
    let text = opens.0 in
    let there = subst IsTrue (sym c.in-Ok.ensures.reading) tells in
    let held = (λ i. c.in-Ok.ensures.kept i (c.in-Ok.ensures.opened.file i)) ∙ opens.1 in
    held_walked c.args.app.now c.sound.ensures (g.F.Files.held c.args.files.now c.args.name.now) text (items_left c.in-Ok.trace text)
    c.args.time c.walk_up_to.new.walker opens.1 opens.3
    (λ states means. of_done c.walk_up_to.result c.in-Ok-walk_up_to.met c.in-Ok-walk_up_to.is (c.walk_up_to.ensures.last there text held opens.2 states means))

pub returns-clause-stops : goal.returns-clause-stops
returns-clause-stops g c = record {
  of_run = c.stop_behind.ensures.of_run;
  refuses = λ refusal is.
      let why = c.stop_behind.ensures.refuses refusal is in
      let stopped = c.in-Err-walk_up_to.is ∙ ap Err why.0 in (
        λ tells.
            let opens = c.in-Ok.ensures.opens tells in
            let there = subst IsTrue (sym c.in-Ok.ensures.reading) tells in
            let held = (λ i. c.in-Ok.ensures.kept i (c.in-Ok.ensures.opened.file i)) ∙ opens.1 in (
              opens.0,
              opens.1,
              ap (λ (s : Scans). s.end) (sym opens.3) ∙ c.walk_up_to.ensures.refused there opens.0 held opens.2 refusal stopped,
            ),
        λ telling. why.1 (subst IsTrue (sym c.in-Ok.ensures.telling) telling) ∙ ap (λ (taken : List ℕ). taken ++ refusal_text refusal) c.in-Ok.ensures.unsaid,
      );
}
