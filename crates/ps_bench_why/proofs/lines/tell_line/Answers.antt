use Rattle.std.proofs.Common.{◌∙◌, ◌++◌, ◌∷◌, [], Some, ap, refl, subst, sym, false}
use Rattle.std.proofs.lemmas.Option.{slice_get-get_or}
use Rattle.ps_cover.proofs.Chains.{carry}
use Rattle.ps_bench_why.specs.Pending.{KeepsOrder, children_of}
use Rattle.ps_bench_why.proofs.Ordered.{new_line, old_line, order_less, order_more}
use Rattle.ps_bench_why.proofs.Tellings.{keeps_noted, now_noted, telling_less, telling_line, within_notes}
use Rattle.ps_bench_why.proofs.lines.tell_line.Goals as goal

pub bounds-told-place : goal.bounds-told-place
bounds-told-place c =
    within_notes c.args.explanation.now c.args.told.now c.args.lines.now.items c.args.pending.now.items c.args.line c.requires.telling

pub bounds-told-place-2 : goal.bounds-told-place-2
bounds-told-place-2 c =
    within_notes c.args.explanation.now c.args.told.now c.args.lines.now.items c.args.pending.now.items c.args.line c.requires.telling

pub returns-then-told-place-clause-telling : goal.returns-then-told-place-clause-telling
returns-then-told-place-clause-telling c =
    telling_less c.args.explanation.now c.args.told.now c.args.lines.now.items c.args.pending.now.items c.args.line c.requires.telling

pub returns-then-told-place-clause-tells : goal.returns-then-told-place-clause-tells
returns-then-told-place-clause-tells c =
    let within = within_notes c.args.explanation.now c.args.told.now c.args.lines.now.items c.args.pending.now.items c.args.line c.requires.telling in
    slice_get-get_or c.args.told.now c.args.line.fact false within ∙ ap Some c.if-told-place.true

pub returns-clause-telling : goal.returns-clause-telling
returns-clause-telling c =
    carry c.push_reasons.result
    (λ added. telling_line c.args.explanation.now c.args.told.now _ c.args.lines.now.items _ c.args.pending.now.items _ c.args.line
    c.requires.telling c.if-told-place.false refl c.in_ok-push.ensures.items added) c.push_reasons.ensures.adds

pub returns-clause-keeps : goal.returns-clause-keeps
returns-clause-keeps c = carry c.push_reasons.result (λ added. keeps_noted c.args.told.now c.args.line.fact) c.push_reasons.ensures.adds

pub returns-clause-tells : goal.returns-clause-tells
returns-clause-tells c =
    let within = within_notes c.args.explanation.now c.args.told.now c.args.lines.now.items c.args.pending.now.items c.args.line c.requires.telling in
    carry c.push_reasons.result (λ added. now_noted c.args.told.now c.args.line.fact within) c.push_reasons.ensures.adds

pub returns-then-told-place-clause-order : goal.returns-then-told-place-clause-order
returns-then-told-place-clause-order c =
    let e = c.args.explanation.now in
    let lines = c.args.lines.now.items in
    let pending = c.args.pending.now.items in
    order_less e lines pending c.args.line (old_line e c.args.told.now lines pending c.args.line c.requires.telling c.if-told-place.true)

pub returns-clause-order : goal.returns-clause-order
returns-clause-order c =
    let e = c.args.explanation.now in
    let x = c.args.line in
    let lines = c.args.lines.now.items in
    let pending = c.args.pending.now.items in
    let new = new_line e c.args.told.now lines pending x c.requires.telling c.if-told-place.false in
    carry c.push_reasons.result
    (λ all. subst (λ ps. KeepsOrder e lines (pending ++ x ∷ []) c.push.new.self.items ps) (sym all)
    (subst (λ ls. KeepsOrder e lines (pending ++ x ∷ []) ls (pending ++ children_of e x)) (sym c.in_ok-push.ensures.items) (order_more e lines pending x new)))
    c.push_reasons.ensures.all
