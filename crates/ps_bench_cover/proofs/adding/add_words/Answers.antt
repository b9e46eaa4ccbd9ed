use Rattle.std.proofs.Common.{◌<◌, ◌+◌, ◌++◌, ◌∷◌, [], ℕ, Bool, true, List, Bor, Ok, refl, sym, ap, subst, length, take, get_or, arith}
use Rattle.std.proofs.lemmas.List.{take_all}
use Rattle.ps_cover.proofs.Knowing.{none_known}
use Rattle.ps_bench_frame.proofs.Leaving.{quiet_both, quiet_same, texts_stay}
use Rattle.ps_bench_frame.specs.Opening.{source_in, source_of_call}
use Rattle.ps_bench_frame.specs.Seen.{Texts}
use Rattle.ps_bench_trace.specs.Coming.{IsWhyAtWord}
use Rattle.ps_bench_trace.specs.Playing.{LacksCase}
use Rattle.ps_bench_cover.specs.Adding.{AreScansAll}
use Rattle.ps_bench_cover.specs.Coming.{ComesOfWord}
use Rattle.ps_bench_cover.proofs.Words.{all_more, among, stops_at, word_any, words_in, words_more}
use Rattle.ps_bench_cover.proofs.adding.add_words.Goals as goal

abbrev none : Bor (List ℕ)
none = record { ref_ptr = (0, 0); now = [] }

pub loop-word-init : goal.loop-word-init
loop-word-init g c = record {
  adds = λ tells. ([], tt, none_known c.args.opened.now.app c.args.total.now);
  place = refl;
  quiet = quiet_same _;
}

pub loop-word-preserved : goal.loop-word-preserved
loop-word-preserved g c =
    let net = c.args.opened.now.app in
    let sizes = c.args.opened.now.sizes in
    let words = c.args.words.now in
    let i = c.loop-word.word-index in
    let word = (get_or words i none).now in
    let below : i < length words = omega arith in
    let first = g.C.Call.seen c.args.call.now in
    let mid = g.C.Call.seen c.loop-word.call in
    let from = source_of_call net sizes first in
    let inv = c.loop-word.invariant in
    let came = subst (λ (b : Bool). ComesOfWord (source_of_call net sizes mid) word c.loop-word.total c.add_word.new.total (Ok b)) c.in-Ok-true.field-0-test c.in-Ok-true.ensures.comes in
    let moved = subst (λ (t : Texts). ComesOfWord (source_in net sizes t) word c.loop-word.total c.add_word.new.total (Ok true)) (texts_stay first mid inv.quiet) came in
    record {
      adds = λ tells.
          let old = inv.adds tells in
          let more = moved tells in (
            old.0 ++ more.0 ∷ [],
            subst (λ ns. AreScansAll from ns (old.0 ++ more.0 ∷ [])) (sym (words_more words i none below))
                (all_more from (words_in (take i words)) word old.0 more.0 old.1 more.1),
            more.2 old.0 c.args.total.now c.requires old.2,
          );
      place = ap (λ n. n + 1) inv.place;
      quiet = quiet_both first mid _ inv.quiet c.in-Ok-true.ensures.reads.quiet;
    }

pub returns : goal.returns
returns g c =
    let from = source_of_call c.args.opened.now.app c.args.opened.now.sizes (g.C.Call.seen c.args.call.now) in
    record {
      comes = λ tells.
          let old = c.loop-word.invariant.adds tells in
          (old.0, subst (λ ns. AreScansAll from (words_in ns) old.0) (take_all c.loop-word.word-index c.args.words.now (omega arith)) old.1, old.2);
      reads = record { quiet = c.loop-word.invariant.quiet; stops = tt };
    }

pub returns-in-Ok-false : goal.returns-in-Ok-false
returns-in-Ok-false g c =
    let net = c.args.opened.now.app in
    let sizes = c.args.opened.now.sizes in
    let words = c.args.words.now in
    let i = c.loop-word.word-index in
    let word = (get_or words i none).now in
    let first = g.C.Call.seen c.args.call.now in
    let mid = g.C.Call.seen c.loop-word.call in
    let inv = c.loop-word.invariant in
    let came = subst (λ (b : Bool). ComesOfWord (source_of_call net sizes mid) word c.loop-word.total c.add_word.new.total (Ok b)) c.in-Ok-false.field-0-test c.in-Ok-false.ensures.comes in
    record {
      comes = word_any (λ w. w) (LacksCase (source_of_call net sizes first)) words i none (omega arith)
          (subst (λ (t : Texts). LacksCase (source_in net sizes t) word) (texts_stay first mid inv.quiet) came);
      reads = record { quiet = quiet_both first mid _ inv.quiet c.in-Ok-false.ensures.reads.quiet; stops = tt };
    }

pub returns-in-Err : goal.returns-in-Err
returns-in-Err g c =
    let net = c.args.opened.now.app in
    let sizes = c.args.opened.now.sizes in
    let words = c.args.words.now in
    let i = c.loop-word.word-index in
    let word = (get_or words i none).now in
    let below : i < length words = omega arith in
    let first = g.C.Call.seen c.args.call.now in
    let mid = g.C.Call.seen c.loop-word.call in
    let last = g.C.Call.seen c.add_word.new.call in
    let inv = c.loop-word.invariant in
    let why = c.in-Err.stop in
    record {
      comes = among (source_of_call net sizes first) words i none below c.loop-word.place why c.at_place.result inv.place
          (λ tells. let old = inv.adds tells in (old.0, old.1)) c.at_place.ensures
          (subst (λ (t : Texts). IsWhyAtWord (source_in net sizes t) word why) (texts_stay first mid inv.quiet) c.in-Err.ensures.comes);
      reads = record {
        quiet = quiet_both first mid last inv.quiet c.in-Err.ensures.reads.quiet;
        stops = stops_at words i none below c.loop-word.place why c.at_place.result first mid last inv.quiet c.at_place.ensures c.in-Err.ensures.reads.stops;
      };
    }
