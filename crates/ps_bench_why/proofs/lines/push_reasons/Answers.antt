use Rattle.std.proofs.Common.{◌≡◌, ◌∙◌, ◌+◌, ◌-◌, ◌<◌, ◌++◌, ◌∷◌, [], Some, ap, length, refl, slice_get, subst, sym, arith, append_assoc, append-nil}
use Rattle.std.specs.Prelude.{Contains, IfSome, slice_index_or}
use Rattle.std.specs.Option.{option_map_or}
use Rattle.std.proofs.lemmas.Bool.{le-ltb, lt-ltb}
use Rattle.ps_why.specs.Below.{line_below}
use Rattle.ps_why.specs.declared.explaining.Reasons.{Reasons}
use Rattle.ps_why.specs.declared.lines.Line.{Line}
use Rattle.std.proofs.lemmas.List.Elements.{Contains-get_or}
use Rattle.std.proofs.lemmas.Option.{slice_get_read}
use Rattle.ps_bench_why.specs.Pending.{AddsChildren}
use Rattle.ps_bench_why.proofs.Ordered.{all_from, child_here, child_none, none_from, past_reasons, reversed_from}
use Rattle.ps_bench_why.proofs.Tellings.{child_more}
use Rattle.ps_bench_why.proofs.lines.push_reasons.Goals.{then-fact-len+in_ok-push, else-fact-len}
use Rattle.ps_bench_why.proofs.lines.push_reasons.Goals as goal

pub loop-i-init : goal.loop-i-init
loop-i-init c =
    let e = c.args.explanation.now in
    let old = c.args.pending.now.items in
    let facts = c.as_slice-reasons.result.now in
    record {
      adds = ([], sym (append-nil old), tt);
      all = sym (append-nil old) ∙ ap (λ l. old ++ l) (sym (none_from e c.args.line facts (length facts - 0) (omega arith)));
    }

pub loop-i-preserved : goal.loop-i-preserved
loop-i-preserved c =
    let e = c.args.explanation.now in
    let x = c.args.line in
    let old = c.args.pending.now.items in
    let r = c.index.result.now in
    let facts = c.as_slice-reasons.result.now in
    let i = c.loop-i.i in
    let n = length facts - 1 - i in
    let at : slice_get e.reasons.items x.fact ≡ Some r =
    slice_get_read e.reasons.items _ x.fact r refl (omega (arith, c.if-place-len.false, c.len.ensures)) c.index.ensures in
    let fact = slice_index_or facts n 0 in
    let within : n < length facts = omega (arith, c.loop-i-test.true) in
    let among : Contains r.facts.items fact =
    subst (λ ns. Contains ns fact) c.as_slice-reasons.ensures.value (Contains-get_or facts n 0 within) in
    let below : c.in-Some.below ≡ line_below x fact =
    subst (λ o. IfSome o (λ l. l ≡ line_below x fact)) c.in-Some.is c.below.ensures in
    let so_far : length facts - i ≡ n + 1 = omega (arith, c.loop-i-test.true) in
    let next : n ≡ length facts - (i + 1) = omega (arith, c.loop-i-test.true) in
    let told : c.loop-i.pending.items ≡ old ++ reversed_from e x facts (n + 1) = c.loop-i.invariant.all ∙ ap (λ k. old ++ reversed_from e x facts k) so_far in
    elim c.if-fact-len.branch [
      | then-fact-len+in_ok-push w ↦
          let of : fact < length e.facts.items = omega (arith, w.if-fact-len.true, c.len-in-loop-i.ensures) in
          let pushed : c.if-fact-len.pending.items ≡ c.loop-i.pending.items ++ line_below x fact ∷ [] =
          ap (λ p. p.items) w.pending-is ∙ w.in_ok-push.ensures.items ∙ ap (λ (l : Line). c.loop-i.pending.items ++ l ∷ []) below in
          record {
            adds = child_more e x old c.loop-i.pending.items c.if-fact-len.pending.items (line_below x fact) c.loop-i.invariant.adds pushed
                (record { deeper = refl; reason = (r, at, among); of = of });
            all = pushed ∙ ap (λ l. l ++ line_below x fact ∷ []) told ∙ append_assoc old (reversed_from e x facts (n + 1)) (line_below x fact ∷ [])
                ∙ ap (λ l. old ++ l) (sym (child_here e x facts n within (lt-ltb fact (length e.facts.items) of)))
                ∙ ap (λ k. old ++ reversed_from e x facts k) next;
          }
      | else-fact-len w ↦
          let same = ap (λ p. p.items) w.pending-is in
          record {
            adds = subst (AddsChildren e x old) (sym same) c.loop-i.invariant.adds;
            all = same ∙ told ∙ ap (λ l. old ++ l) (sym (child_none e x facts n within (le-ltb fact (length e.facts.items) (omega (arith, w.if-fact-len.false, c.len-in-loop-i.ensures)))))
                ∙ ap (λ k. old ++ reversed_from e x facts k) next;
          }
    ]

pub returns-then-place-len-clause-all : goal.returns-then-place-len-clause-all
returns-then-place-len-clause-all c =
    sym (append-nil c.args.pending.now.items)
    ∙ ap (λ l. c.args.pending.now.items ++ l)
    (sym (past_reasons c.args.explanation.now c.args.line (omega (arith, c.if-place-len.true, c.len.ensures))))

pub returns-clause-adds : goal.returns-clause-adds
returns-clause-adds c = c.loop-i.invariant.adds

pub returns-clause-all : goal.returns-clause-all
returns-clause-all c =
    let e = c.args.explanation.now in
    let x = c.args.line in
    let r = c.index.result.now in
    let facts = c.as_slice-reasons.result.now in
    let at : slice_get e.reasons.items x.fact ≡ Some r =
    slice_get_read e.reasons.items _ x.fact r refl (omega (arith, c.if-place-len.false, c.len.ensures)) c.index.ensures in
    c.loop-i.invariant.all
    ∙ ap (λ l. c.args.pending.now.items ++ l)
    (all_from e x facts (length facts - c.loop-i.i) (omega (arith, c.loop-i-test.false))
    (ap (λ o. option_map_or (λ (r : Reasons). r.facts.items) o []) at ∙ sym c.as_slice-reasons.ensures.value))
