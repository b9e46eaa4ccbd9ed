use Rattle.std.proofs.Common.{◌≡◌, ◌∙◌, Option, length, sym, ap, arith}
use Rattle.std.proofs.lemmas.Grind.{common_steps}
use Rattle.std.proofs.lemmas.List.{with_items_is}
use Rattle.ps_base.specs.declared.failing.Rule.{Rule}
use Rattle.ps_trace.specs.Header.{input_names}
use Rattle.ps_trace.specs.Header.Header.{places}
use Rattle.ps_trace.specs.HeaderSays.{names_by}
use Rattle.ps_trace.proofs.HeaderLemmas.{said_T1, said_names}
use Rattle.ps_trace.proofs.header.read_header.Goals as goal

pub returns-then-not-is_time-clause-says : goal.returns-then-not-is_time-clause-says
returns-then-not-is_time-clause-says c = said_T1 (input_names c.args.app.now) _ _ _ c.in-Some.ensures.first (sym c.is_time.ensures ∙ grind (arith, common_steps))

pub returns-in-Some-judge_names-clause-says : goal.returns-in-Some-judge_names-clause-says
returns-in-Some-judge_names-clause-says c =
    said_names (input_names c.args.app.now) _ _ _ c.in-Some.ensures.first (sym c.is_time.ensures ∙ grind (arith, common_steps))
    ∙ c.judge_names.ensures ∙ ap (λ (r : Option Rule). names_by r c.judge_names.new.places) c.in-Some-judge_names.is

pub returns-in-None-clause-says : goal.returns-in-None-clause-says
returns-in-None-clause-says c =
    let room : length c.judge_names.new.places ≡ c.in_ok-places.places.len = grind (arith, common_steps) in
    said_names (input_names c.args.app.now) _ _ _ c.in-Some.ensures.first (sym c.is_time.ensures ∙ grind (arith, common_steps))
    ∙ c.judge_names.ensures ∙ ap (λ (r : Option Rule). names_by r c.judge_names.new.places) c.in-None.is
    ∙ sym (ap places (with_items_is c.in_ok-places.places c.judge_names.new.places room))
