use Rattle.std.proofs.Common.{◌∙◌, ℕ, List, sym, subst}
use Rattle.std.specs.List.{All}
use Rattle.ps_bench_never.specs.Asked.{AreAlike}
use Rattle.ps_bench_never.specs.AnsweringAny.{IsAttempt, SaysIn, sought_in}
use Rattle.ps_bench_never.specs.TellingAny.{told_text}
use Rattle.ps_bench_never.specs.declared.searching.Attempt.{Attempt}
use Rattle.ps_bench_never.proofs.Saying.{says_in}
use Rattle.ps_bench_never.proofs.answering_any.told_behind.Goals as goal

pub attempts_of-requires : goal.attempts_of-requires
attempts_of-requires g c = record {
  some = c.requires.some;
  stands = c.requires.stands;
  few = c.requires.few;
}

pub told-requires : goal.told-requires
told-requires g c =
    subst (λ (attempts : List Attempt). All (SaysIn c.args.app.now) attempts) (sym c.as_slice-2.ensures.value)
    (says_in c.args.app.now c.args.file.now c.args.most c.paces_of.result.now c.in_ok-attempts.attempts.items c.in_ok-attempts.ensures)

pub returns : goal.returns
returns g c =
    let net = c.args.app.now in
    record {
      attempts = c.in_ok-attempts.attempts.items;
      tried = subst (λ (paces : List ℕ). AreAlike (IsAttempt net c.args.file.now c.args.most) paces c.in_ok-attempts.attempts.items) c.paces_of.ensures c.in_ok-attempts.ensures;
      text = c.in_ok-text.ensures
          ∙ (λ x. told_text (sought_in net c.args.name.now c.args.most c.args.whole.now (c.as_slice-2.ensures.value x)) 0 (c.as_slice.ensures x));
      holds = c.holds_whole.ensures;
    }
