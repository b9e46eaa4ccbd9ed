use Rattle.std.proofs.Common.{◌≡◌, ◌++◌, ap, ◌∙◌, arith}
use Rattle.std.specs.Prelude.{not}
use Rattle.std.specs.List.{flat_map, range_with_len}
use Rattle.ps_pairs.specs.Arranging.{is_shared, is_shared_at, shared_count, taken}
use Rattle.ps_pairs.proofs.Spans.{one_more}
use Rattle.ps_pairs.proofs.arranging.arranged_sections.Goals as goal

pub loop-s-preserved : goal.loop-s-preserved
loop-s-preserved c =
    let net = c.args.app.now in
    one_more (λ s. taken (is_shared_at net s) c.args.sections.now) c.loop-s.s c.loop-s.written c.add_taken.new.written c.loop-s.invariant c.in_ok-add_taken.ensures

pub returns : goal.returns
returns c =
    let net = c.args.app.now in
    let ss = c.args.sections.now in
    let end : c.loop-s.s ≡ shared_count net = omega (arith, c.loop-s-test.false, c.input_count.ensures, c.output_count.ensures) in
    c.in_ok-add_taken-2.ensures
    ∙ ap (λ w. w ++ taken (λ text. not (is_shared net text)) ss)
    (c.loop-s.invariant ∙ ap (λ n. flat_map (λ s. taken (is_shared_at net s) ss) (range_with_len 0 n)) end)
