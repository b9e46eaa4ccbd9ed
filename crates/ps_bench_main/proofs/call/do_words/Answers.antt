use Rattle.std.proofs.Common.{ap, subst, ◌∙◌}
use Rattle.ps_bench_words.specs.Asking.{Asks}
use Rattle.ps_bench_words.specs.Seen.{asked_seen, seen}
use Rattle.ps_bench_main.proofs.call.do_words.Goals as goal

pub returns : goal.returns
returns g c =
    let asked = asked_seen c.in_ok-asked.asked in
    record {
      answers = λ done. (
        asked,
        subst (λ words. Asks words asked) (ap seen c.as_slice.ensures.value ∙ c.in_ok-texts.ensures) c.in_ok-asked.ensures,
        c.end_asked.ensures.answers done,
        c.end_asked.ensures.heard done,
      );
      cut_off = λ done. (
        asked,
        subst (λ words. Asks words asked) (ap seen c.as_slice.ensures.value ∙ c.in_ok-texts.ensures) c.in_ok-asked.ensures,
        c.end_asked.ensures.cut_off done,
        c.end_asked.ensures.unread,
      );
      unwritten = c.end_asked.ensures.unwritten;
      handed_on = c.end_asked.ensures.handed_on;
      nothing = tt;
      telling = c.end_asked.ensures.telling;
      meanwhile = λ tells. (
        asked,
        subst (λ words. Asks words asked) (ap seen c.as_slice.ensures.value ∙ c.in_ok-texts.ensures) c.in_ok-asked.ensures,
        c.end_asked.ensures.meanwhile tells,
      );
      unheard = tt;
      quiet = c.end_asked.ensures.quiet;
    }
