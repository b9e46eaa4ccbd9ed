use Rattle.std.proofs.Common.{Bool, Ok, inl, inr, refl, subst}
use Rattle.ps_bench_frame.proofs.Leaving.{quiet_same, reads_none}
use Rattle.ps_bench_frame.specs.Opening.{source_of_call}
use Rattle.ps_bench_cover.proofs.Begun.{begun_unseen, begun_whole}
use Rattle.ps_bench_cover.proofs.Kept.{told_in}
use Rattle.ps_bench_cover.specs.Asking.{wanted_by}
use Rattle.ps_bench_cover.specs.Coming.{ComesOfWords}
use Rattle.ps_bench_cover.proofs.accounting.cover_app.Goals as goal

pub add_words-requires : goal.add_words-requires
add_words-requires g c =
    let is = c.in-Ok.ensures in
    begun_whole c.args.sourced.now.opened.app c.in-Ok.total is.points is.none_off is.none_on

pub returns-in-Err : goal.returns-in-Err
returns-in-Err g c = record { comes = inl refl; reads = reads_none _ _ _ (quiet_same _) }

pub returns-in-Ok-answer_of : goal.returns-in-Ok-answer_of
returns-in-Ok-answer_of g c =
    let wanted = wanted_by c.args.asked.now in
    let from = source_of_call c.args.sourced.now.opened.app c.args.sourced.now.opened.sizes (g.C.Call.seen c.args.call.now) in
    let begun = c.in-Ok.total in
    let total = c.add_words.new.total in
    let is = c.in-Ok.ensures in
    record {
      comes = told_in from c.args.asked.now.app.now wanted c.args.sourced.now.source begun total is.points
          (begun_unseen c.args.sourced.now.opened.app begun is.points is.none_off is.none_on) c.requires.source
          (subst (λ (b : Bool). ComesOfWords from wanted.traces begun total (Ok b)) c.in-Ok-true.field-0-test c.in-Ok-true.ensures.comes)
          c.in-Ok-answer_of.answer c.in-Ok-answer_of.ensures;
      reads = record { quiet = c.in-Ok-true.ensures.reads.quiet; stops = tt };
    }

pub returns-in-Ok-true : goal.returns-in-Ok-true
returns-in-Ok-true g c = record { comes = inl refl; reads = reads_none _ _ _ c.in-Ok-true.ensures.reads.quiet }

pub returns-in-Ok-false : goal.returns-in-Ok-false
returns-in-Ok-false g c =
    let wanted = wanted_by c.args.asked.now in
    let from = source_of_call c.args.sourced.now.opened.app c.args.sourced.now.opened.sizes (g.C.Call.seen c.args.call.now) in
    let came = subst (λ (b : Bool). ComesOfWords from wanted.traces c.in-Ok.total c.add_words.new.total (Ok b)) c.in-Ok-false.field-0-test c.in-Ok-false.ensures.comes in
    record {
      comes = inr (c.usage.ensures.status, came, c.usage.ensures.text);
      reads = record { quiet = c.in-Ok-false.ensures.reads.quiet; stops = tt };
    }

pub returns : goal.returns
returns g c = record {
  comes = inr c.in-Err-add_words.ensures.comes;
  reads = record { quiet = c.in-Err-add_words.ensures.reads.quiet; stops = c.in-Err-add_words.ensures.reads.stops };
}
